-- Reading the columns that are written.
use Rattle.std.proofs.Common.{suc, zero, ◌≡◌, ℕ, ◌+◌, ◌-◌, ◌<◌, ◌≤◌, ◌^◌, Bool, true, false, List, [], ◌∷◌, ◌++◌, length, get_or, Option, Some, None, ℤ, refl, sym, ap, ◌∙◌, subst, append_assoc, arith, length-append}
use Rattle.std.specs.Prelude.{◌&&◌, ◌||◌, ◌==◌, not, nat_abs, AllPairs, map, flat_map, option_and_then, if◌then◌else◌}
use Rattle.std.specs.List.{AllByRecursion, list_any}
use Rattle.std.proofs.lemmas.Bool.Decides.{nat_tests}
use Rattle.std.proofs.lemmas.List.{append-nil, map-append, length-map}
use Rattle.std.proofs.lemmas.List.Elements.{All-from_recursion, recursion_from_All}
use Rattle.arc_num.specs.Decimals.{signed_decimal}
use Rattle.flow_model.specs.declared.programs.Row.{Row}
use Rattle.flow_model.specs.declared.programs.Entry.{Entry}
use Rattle.flow_model.specs.declared.programs.Column.{Column}
use Rattle.flow_model.specs.declared.programs.Program.{Program}
use Rattle.flow_model.specs.Programs.{IsName, IsRow, IsEntry, IsColumn, AreDistinct, marker_word}
use Rattle.mps_text.specs.declared.stages.Stage.TheVariants.{Columns}
use Rattle.mps_text.specs.Written.{is_zero, spaced, row_name, cost_line, entry_line, writes_cost, column_lines}
use Rattle.mps_text.specs.declared.parts.ReadColumn.{ReadColumn}
use Rattle.mps_text.specs.Meaning.{Reading, row_names, column_names, is_name, place_of, with_value, with_values, has_entry, new_column, columns_ending, columns_with}
use Rattle.mps_text.proofs.WrittenNumbers.{signed_field, value_written}
use Rattle.mps_text.proofs.NamePlaces.{name_field, name_keeps, differ, IsNew, name_new, place_new, place_last, place_target, place_at}
use Rattle.mps_text.proofs.Fields.{Leads, leads_none, leads_on, leads_spaced}
use Rattle.mps_text.proofs.Rows.{bare, names_of}
use Rattle.mps_text.proofs.Changes.{change_last, columns_line_gives}

-- a value where it is written
abbrev pub when : Bool → ℤ → Option ℤ
when b z = if b then Some z else None

-- a column without its bounds
abbrev pub given : Column → ReadColumn
given c = record { name = c.name; cost = when (writes_cost c) c.cost; entries = c.entries; fixed = None; lower = None; upper = None }

abbrev pub column_names_of : List Column → List (List ℕ)
column_names_of columns = map (λ column. column.name) columns

-- these columns are read, and more may follow
abbrev pub columns_read : List ℕ → List Row → List ReadColumn → Reading
columns_read objective rows columns = record { stage = Columns; integers_open = true; objective = Some objective; rows = map bare rows; columns = columns }

-- what is known of the objective and the rows
pub record AreKnown (objective : List ℕ) (rows : List Row) : Type 0 where
  pub objective_named : IsName objective
  pub rows_named : AllByRecursion IsRow rows
  pub apart : AreDistinct (objective ∷ names_of rows)

pub bare_names : (rows : List Row) → row_names (map bare rows) ≡ names_of rows
bare_names [] = refl
bare_names (row ∷ rows) = ap (λ (z : List (List ℕ)). row.name ∷ z) (bare_names rows)

rows_named : (rows : List Row) → AllByRecursion IsRow rows → AllByRecursion IsName (names_of rows)
rows_named [] h = tt
rows_named (row ∷ rows) h = (h.0.name, rows_named rows h.1)

columns_new : (name : List ℕ) (columns : List ReadColumn) → is_name name ≡ true → place_of name (column_names columns) ≡ None → columns_with name columns ≡ Some (columns ++ new_column name ∷ [])
columns_new name columns named new = ap (columns_ending name columns) new ∙ ap (λ (b : Bool). if b then Some (columns ++ new_column name ∷ []) else None) named

columns_found : (name : List ℕ) (columns : List ReadColumn) (i : ℕ) → place_of name (column_names columns) ≡ Some i → (i + 1 == length columns) ≡ true → columns_with name columns ≡ Some columns
columns_found name columns i place last = ap (columns_ending name columns) place ∙ ap (λ (b : Bool). if b then Some columns else None) last

columns_last : (name : List ℕ) (done : List ReadColumn) (c : ReadColumn) → c.name ≡ name → IsNew name (column_names done) → columns_with name (done ++ c ∷ []) ≡ Some (done ++ c ∷ [])
columns_last name done c same new =
    let names : column_names (done ++ c ∷ []) ≡ column_names done ++ name ∷ [] = map-append (λ x. x.name) done (c ∷ []) ∙ ap (λ (z : List ℕ). column_names done ++ z ∷ []) same in
    let size : length (column_names done) ≡ length done = length-map done (λ x. x.name) in
    let place : place_of name (column_names (done ++ c ∷ [])) ≡ Some (length (column_names done)) = ap (place_of name) names ∙ place_last name (column_names done) new in
    let sum : length (done ++ c ∷ []) ≡ length done + 1 = length-append done (c ∷ []) in
    columns_found name (done ++ c ∷ []) (length (column_names done)) place (grind (arith, nat_tests))

-- one line gives one value of the last column
value_leads : (objective : List ℕ) (rows : List Row) (before done : List ReadColumn) (c d : ReadColumn) (name row : List ℕ) (target : ℕ) (value : ℤ)
    → IsName name → IsName row → nat_abs value ≤ 2 ^ 62 → columns_with name before ≡ Some (done ++ c ∷ []) → place_of row (objective ∷ names_of rows) ≡ Some target → with_value target value c ≡ Some d
    → Leads (columns_read objective rows before) (spaced (name ∷ row ∷ signed_decimal value ∷ []) ∷ []) (columns_read objective rows (done ++ d ∷ []))
value_leads objective rows before done c d name row target value named row_named small with place gives =
    let r = columns_read objective rows before in
    let at : place_of row (objective ∷ row_names (map bare rows)) ≡ Some target = ap (λ (z : List (List ℕ)). place_of row (objective ∷ z)) (bare_names rows) ∙ place in
    let taken : with_values (target ∷ []) (value ∷ []) c ≡ Some d = ap (λ (o : Option ReadColumn). option_and_then (with_values [] []) o) gives in
    leads_spaced r (columns_read objective rows (done ++ d ∷ [])) name (row ∷ signed_decimal value ∷ []) (name_field name named, (name_field row row_named, (signed_field value small, tt)))
    (columns_line_gives r name row (signed_decimal value) (done ++ c ∷ []) (done ++ d ∷ []) target value (differ row marker_word row_named.other) with refl at (value_written value small) (change_last (with_values (target ∷ []) (value ∷ [])) done c d taken))

-- an entry behind others in lower rows
below_head : (x : Entry) (xs : List Entry) (e : Entry) (es : List Entry) → AllPairs (λ d e. d.row < e.row) (x ∷ (xs ++ e ∷ es)) → (y : Entry) → x.row < (get_or (xs ++ e ∷ es) (length xs) y).row
below_head x xs e es order y = order 0 (suc (length xs)) y (omega arith) (let h = length-append xs (e ∷ es) in omega arith)

entry_seam : (xs : List Entry) (e : Entry) (es : List Entry) (d : Entry) → get_or (xs ++ e ∷ es) (length xs) d ≡ e
entry_seam [] e es d = refl
entry_seam (x ∷ xs) e es d = entry_seam xs e es d

other_row : (x e : ℕ) → x < e → (x == e) ≡ false
other_row x e h = grind (arith, nat_tests)

or_false : (a b : Bool) → a ≡ false → b ≡ false → (a || b) ≡ false
or_false true b x y = absurd (cc)
or_false false b x y = y

no_entry : (xs : List Entry) (e : Entry) (es : List Entry) → AllPairs (λ d e. d.row < e.row) (xs ++ e ∷ es) → list_any (λ d. d.row == e.row) xs ≡ false
no_entry [] e es order = refl
no_entry (x ∷ xs) e es order =
    let lower : x.row < e.row = subst (λ (z : Entry). x.row < z.row) (entry_seam xs e es x) (below_head x xs e es order x) in
    or_false (x.row == e.row) (list_any (λ d. d.row == e.row) xs) (other_row x.row e.row lower)
    (no_entry xs e es (λ i j d lt small. order (suc i) (suc j) d (omega arith) (omega arith)))

-- a column with these entries behind its own
abbrev with_entries : ReadColumn → List Entry → ReadColumn
with_entries c es = record c { entries = c.entries ++ es }

entry_taken : (c : ReadColumn) (row : ℕ) (value : ℤ) → 1 ≤ row → has_entry row c ≡ false → with_value row value c ≡ Some (with_entries c (record { row = row; value = value } ∷ []))
entry_taken c zero value low other = absurd (omega arith)
entry_taken c (suc row) value low other = rw other refl

entry_leads : (objective : List ℕ) (rows : List Row) (before done : List ReadColumn) (c : ReadColumn) (column : Column) (e : Entry) (es : List Entry)
    → AreKnown objective rows → IsName column.name → IsEntry (length rows) e → columns_with column.name before ≡ Some (done ++ c ∷ []) → AllPairs (λ d e. d.row < e.row) (c.entries ++ e ∷ es)
    → Leads (columns_read objective rows before) (entry_line rows column e ∷ []) (columns_read objective rows (done ++ with_entries c (e ∷ []) ∷ []))
entry_leads objective rows before done c column e es known named lawful with order =
    let size : length (names_of rows) ≡ length rows = length-map rows (λ row. row.name) in
    let row = lawful.row in
    let low : 1 ≤ e.row = row.0 in
    let high : e.row ≤ length (names_of rows) = omega (arith, row.1) in
    let row_named : IsName (row_name rows e.row) = All-from_recursion IsName (names_of rows) (rows_named rows known.rows_named) (e.row - 1) [] (omega arith) in
    value_leads objective rows before done c (with_entries c (e ∷ [])) column.name (row_name rows e.row) e.row e.value named row_named lawful.value with
    (place_target objective (names_of rows) e.row low high known.apart) (entry_taken c e.row e.value low (no_entry c.entries e es order))

entries_lead : (objective : List ℕ) (rows : List Row) (before done : List ReadColumn) (c : ReadColumn) (column : Column) (e : Entry) (es : List Entry)
    → AreKnown objective rows → IsName column.name → c.name ≡ column.name → IsNew column.name (column_names done) → AllByRecursion (IsEntry (length rows)) (e ∷ es)
    → columns_with column.name before ≡ Some (done ++ c ∷ []) → AllPairs (λ d e. d.row < e.row) (c.entries ++ e ∷ es)
    → Leads (columns_read objective rows before) (map (entry_line rows column) (e ∷ es)) (columns_read objective rows (done ++ with_entries c (e ∷ es) ∷ []))
entries_lead objective rows before done c column e [] known named same new lawful with order =
    entry_leads objective rows before done c column e [] known named lawful.0 with order
entries_lead objective rows before done c column e (f ∷ es) known named same new lawful with order =
    let one = with_entries c (e ∷ []) in
    let first = entry_leads objective rows before done c column e (f ∷ es) known named lawful.0 with order in
    let assoc : c.entries ++ (e ∷ (f ∷ es)) ≡ (c.entries ++ e ∷ []) ++ (f ∷ es) = sym (append_assoc c.entries (e ∷ []) (f ∷ es)) in
    let behind = entries_lead objective rows (done ++ one ∷ []) done one column f es known named same new lawful.1 (columns_last column.name done one same new) (subst (λ (z : List Entry). AllPairs (λ d e. d.row < e.row) z) assoc order) in
    let joined_entries : with_entries one (f ∷ es) ≡ with_entries c (e ∷ f ∷ es) = ap (λ (z : List Entry). record c { entries = z }) (sym assoc) in
    subst (λ (z : ReadColumn). Leads (columns_read objective rows before) (map (entry_line rows column) (e ∷ f ∷ es)) (columns_read objective rows (done ++ z ∷ []))) joined_entries
    (leads_on (columns_read objective rows before) (columns_read objective rows (done ++ one ∷ [])) (columns_read objective rows (done ++ with_entries one (f ∷ es) ∷ [])) (entry_line rows column e ∷ []) (map (entry_line rows column) (f ∷ es)) first behind)

-- a column that is read up to its cost
abbrev up_to_cost : Column → Option ℤ → ReadColumn
up_to_cost column cost = record { name = column.name; cost = cost; entries = []; fixed = None; lower = None; upper = None }

-- the entries behind the cost
rest_leads : (objective : List ℕ) (rows : List Row) (done : List ReadColumn) (column : Column) (cost : Option ℤ) (es : List Entry)
    → AreKnown objective rows → IsName column.name → IsNew column.name (column_names done) → AllByRecursion (IsEntry (length rows)) es → AllPairs (λ d e. d.row < e.row) es
    → Leads (columns_read objective rows (done ++ up_to_cost column cost ∷ [])) (map (entry_line rows column) es) (columns_read objective rows (done ++ with_entries (up_to_cost column cost) es ∷ []))
rest_leads objective rows done column cost [] known named new lawful order = leads_none (columns_read objective rows (done ++ up_to_cost column cost ∷ []))
rest_leads objective rows done column cost (e ∷ es) known named new lawful order =
    entries_lead objective rows (done ++ up_to_cost column cost ∷ []) done (up_to_cost column cost) column e es known named refl new lawful (columns_last column.name done (up_to_cost column cost) refl new) order

-- the lines of a column, where its cost is written and where it is not
parts_lead : (objective : List ℕ) (rows : List Row) (done : List ReadColumn) (column : Column) (b : Bool) (es : List Entry)
    → AreKnown objective rows → IsName column.name → nat_abs column.cost ≤ 2 ^ 62 → IsNew column.name (column_names done) → AllByRecursion (IsEntry (length rows)) es → AllPairs (λ d e. d.row < e.row) es
    → (b ≡ false → 0 < length es)
    → Leads (columns_read objective rows done) ((if b then cost_line objective column ∷ [] else []) ++ map (entry_line rows column) es) (columns_read objective rows (done ++ with_entries (up_to_cost column (when b column.cost)) es ∷ []))
parts_lead objective rows done column true es known named small new lawful order some =
    let with = columns_new column.name done (name_keeps column.name named) (place_new column.name (column_names done) new) in
    let first = value_leads objective rows done done (new_column column.name) (up_to_cost column (Some column.cost)) column.name objective 0 column.cost named known.objective_named small with
    (place_at (objective ∷ names_of rows) 0 [] known.apart (omega arith)) refl in
    leads_on (columns_read objective rows done) (columns_read objective rows (done ++ up_to_cost column (Some column.cost) ∷ [])) (columns_read objective rows (done ++ with_entries (up_to_cost column (Some column.cost)) es ∷ []))
    (cost_line objective column ∷ []) (map (entry_line rows column) es) first (rest_leads objective rows done column (Some column.cost) es known named new lawful order)
parts_lead objective rows done column false [] known named small new lawful order some = let h = some refl in absurd (omega arith)
parts_lead objective rows done column false (e ∷ es) known named small new lawful order some =
    entries_lead objective rows done done (new_column column.name) column e es known named refl new lawful (columns_new column.name done (name_keeps column.name named) (place_new column.name (column_names done) new)) order

cost_left : (a b : Bool) → not (a && not b) ≡ false → b ≡ false
cost_left true true h = absurd (cc)
cost_left true false h = refl
cost_left false b h = absurd (cc)

entries_stand : (column : Column) → writes_cost column ≡ false → 0 < length column.entries
entries_stand column h =
    let e = cost_left (is_zero column.cost) (length column.entries == 0) h in
    grind (arith, nat_tests)

column_leads : (p : Program) (done : List ReadColumn) (column : Column) → AreKnown p.objective p.rows → IsColumn (length p.rows) column → IsNew column.name (column_names done)
    → Leads (columns_read p.objective p.rows done) (column_lines p column) (columns_read p.objective p.rows (done ++ given column ∷ []))
column_leads p done column known lawful new =
    parts_lead p.objective p.rows done column (writes_cost column) column.entries known lawful.name lawful.cost new (recursion_from_All (IsEntry (length p.rows)) column.entries lawful.entries) lawful.order (entries_stand column)

-- one more column keeps the names apart
column_names_on : (done : List ReadColumn) (column : Column) (columns : List Column) → column_names done ++ (column.name ∷ column_names_of columns) ≡ column_names (done ++ given column ∷ []) ++ column_names_of columns
column_names_on done column columns =
    sym (ap (λ (z : List (List ℕ)). z ++ column_names_of columns) (map-append (λ r. r.name) done (given column ∷ [])) ∙ append_assoc (column_names done) (column.name ∷ []) (column_names_of columns))

pub columns_lead : (p : Program) (done : List ReadColumn) (columns : List Column) → AreKnown p.objective p.rows → AllByRecursion (IsColumn (length p.rows)) columns → AreDistinct (column_names done ++ column_names_of columns)
    → Leads (columns_read p.objective p.rows done) (flat_map (column_lines p) columns) (columns_read p.objective p.rows (done ++ map given columns))
columns_lead p done [] known lawful apart = subst (λ (z : List ReadColumn). Leads (columns_read p.objective p.rows done) [] (columns_read p.objective p.rows z)) (sym (append-nil done)) (leads_none (columns_read p.objective p.rows done))
columns_lead p done (column ∷ columns) known lawful apart =
    let after = done ++ given column ∷ [] in
    let first = column_leads p done column known lawful.0 (name_new column.name (column_names done) (column_names_of columns) apart) in
    let behind = columns_lead p after columns known lawful.1 (subst AreDistinct (column_names_on done column columns) apart) in
    subst (λ (z : List ReadColumn). Leads (columns_read p.objective p.rows done) (column_lines p column ++ flat_map (column_lines p) columns) (columns_read p.objective p.rows z)) (append_assoc done (given column ∷ []) (map given columns))
    (leads_on (columns_read p.objective p.rows done) (columns_read p.objective p.rows after) (columns_read p.objective p.rows (after ++ map given columns)) (column_lines p column) (flat_map (column_lines p) columns) first behind)
