-- The whole text of a program means this program.
use Rattle.std.proofs.Common.{suc, zero, ◌≡◌, ◌≢◌, ℕ, ◌<◌, ◌≤◌, Bool, true, false, List, [], ◌∷◌, ◌++◌, length, Some, None, ℤ, pos, negsuc, refl, sym, ap, ◌∙◌, Ok, arith}
use Rattle.std.specs.Prelude.{◌&&◌, ◌==◌, not, nat_le, AllPairs, map, filter, flat_map, codes, unwrap_or, if◌then◌else◌}
use Rattle.std.specs.List.{AllByRecursion, list_all}
use Rattle.std.proofs.lemmas.Bool.Decides.{nat_tests}
use Rattle.std.proofs.lemmas.List.{append-nil}
use Rattle.std.proofs.lemmas.List.Elements.{recursion_from_All}
use Rattle.flow_model.specs.declared.programs.Row.{Row}
use Rattle.flow_model.specs.declared.programs.Entry.{Entry}
use Rattle.flow_model.specs.declared.programs.Column.{Column}
use Rattle.flow_model.specs.declared.programs.Program.{Program}
use Rattle.flow_model.specs.Programs.{IsRow, IsEntry, IsColumn, IsProgram}
use Rattle.mps_text.specs.declared.faults.MpsCause.TheVariants as cause
use Rattle.mps_text.specs.declared.stages.Stage.TheVariants.{Named, Rows, Ended}
use Rattle.mps_text.specs.Written.{is_zero, spaced, row_line, column_lines, right_lines, bound_lines, writes_cost, first_mark, last_mark, rows_section, columns_section, rights_section, bounds_section, mps_lines_of, mps_text_of}
use Rattle.mps_text.specs.Meaning.{Reading, first_reading, owes, is_name, is_new_name, is_bounded, put_entry, in_row_order, row_of, column_of, program_of, ends_with, mps_meaning}
use Rattle.mps_text.specs.Laws.{WrittenIsRead}
use Rattle.mps_text.proofs.WrittenNumbers.{joint}
use Rattle.mps_text.proofs.NamePlaces.{name_field, name_keeps}
use Rattle.mps_text.proofs.Fields.{Leads, leads_on, leads_line, leads_spaced}
use Rattle.mps_text.proofs.Rows.{bare, rows_read, rows_lead}
use Rattle.mps_text.proofs.Columns.{AreKnown, given, when, columns_read, columns_lead}
use Rattle.mps_text.proofs.Sides.{unless_zero, sided, rights_read, rights_lead, if_so, if_not, bounded, closed, limits_read, bounds_lead}

-- what a row gives is the row
zero_is : (z : ℤ) → is_zero z ≡ true → pos 0 ≡ z
zero_is (pos zero) h = refl
zero_is (pos (suc n)) h = absurd (grind (arith, nat_tests))
zero_is (negsuc n) h = absurd (grind (arith, nat_tests))

side_is : (b : Bool) (z : ℤ) → is_zero z ≡ b → unwrap_or (unless_zero b z) (pos 0) ≡ z
side_is true z h = zero_is z h
side_is false z h = refl

rows_are : (rows : List Row) → map row_of (map sided rows) ≡ rows
rows_are [] = refl
rows_are (row ∷ rows) =
    let first : row_of (sided row) ≡ row = (λ i. record { name = row.name; kind = row.kind; right = side_is (is_zero row.right) row.right refl i }) in
    (λ i. first i ∷ rows_are rows i)

-- what a column gives is the column
cost_zero : (a b : Bool) → not (a && not b) ≡ false → a ≡ true
cost_zero true b h = refl
cost_zero false b h = absurd (cc)

cost_is : (b : Bool) (z : ℤ) → (b ≡ false → is_zero z ≡ true) → unwrap_or (when b z) (pos 0) ≡ z
cost_is true z h = refl
cost_is false z h = zero_is z (h refl)

filled : (z : ℤ) → z ≢ pos 0 → not (is_zero z) ≡ true
filled (pos zero) h = absurd (h refl)
filled (pos (suc n)) h = grind (arith, nat_tests)
filled (negsuc n) h = grind (arith, nat_tests)

kept : (n : ℕ) (entries : List Entry) → AllByRecursion (IsEntry n) entries → filter (λ e. not (is_zero e.value)) entries ≡ entries
kept n [] h = refl
kept n (e ∷ entries) h = rw (filled e.value h.0.filled) (ap (λ (z : List Entry). e ∷ z) (kept n entries h.1))

put_first : (e : Entry) (entries : List Entry) → AllPairs (λ d e. d.row < e.row) (e ∷ entries) → put_entry e entries ≡ e ∷ entries
put_first e [] order = refl
put_first e (d ∷ entries) order =
    let lower : e.row < d.row = order 0 1 e (omega arith) (omega arith) in
    let test : nat_le e.row d.row ≡ true = grind (arith, nat_tests) in
    rw test refl

ordered : (entries : List Entry) → AllPairs (λ d e. d.row < e.row) entries → in_row_order entries ≡ entries
ordered [] order = refl
ordered (e ∷ entries) order =
    ap (put_entry e) (ordered entries (λ i j d lt small. order (suc i) (suc j) d (omega arith) (omega arith))) ∙ put_first e entries order

lower_is : (one none : Bool) (lower upper : ℕ) → (one ≡ true → lower ≡ upper) → (none ≡ true → lower ≡ 0) → unwrap_or (if_so one upper) (unwrap_or (if one then None else if_not none lower) 0) ≡ lower
lower_is true none lower upper same zero_low = sym (same refl)
lower_is false true lower upper same zero_low = sym (zero_low refl)
lower_is false false lower upper same zero_low = refl

upper_is : (one : Bool) (upper : ℕ) → unwrap_or (if_so one upper) (unwrap_or (if_not one upper) 0) ≡ upper
upper_is true upper = refl
upper_is false upper = refl

same_number : (a b : ℕ) → (a == b) ≡ true → a ≡ b
same_number a b h = grind (arith, nat_tests)

column_is : (n : ℕ) (c : Column) → IsColumn n c → column_of (closed c) ≡ c
column_is n c h =
    let cost = cost_is (writes_cost c) c.cost (cost_zero (is_zero c.cost) (length c.entries == 0)) in
    let entries = ap in_row_order (kept n c.entries (recursion_from_All (IsEntry n) c.entries h.entries)) ∙ ordered c.entries h.order in
    let lower = lower_is (c.lower == c.upper) (c.lower == 0) c.lower c.upper (same_number c.lower c.upper) (same_number c.lower 0) in
    let upper = upper_is (c.lower == c.upper) c.upper in
    (λ i. record { name = c.name; cost = cost i; entries = entries i; lower = lower i; upper = upper i })

columns_are : (n : ℕ) (columns : List Column) → AllByRecursion (IsColumn n) columns → map column_of (map closed columns) ≡ columns
columns_are n [] h = refl
columns_are n (c ∷ columns) h =
    let first = column_is n c h.0 in
    let rest = columns_are n columns h.1 in
    (λ i. first i ∷ rest i)

-- each column has bounds
column_bounded : (c : Column) (one none : Bool) → c.lower ≤ c.upper → is_bounded (bounded c one none) ≡ true
column_bounded c true none h = refl
column_bounded c false true h = grind (arith, nat_tests)
column_bounded c false false h = grind (arith, nat_tests)

all_bounded : (n : ℕ) (columns : List Column) → AllByRecursion (IsColumn n) columns → list_all is_bounded (map closed columns) ≡ true
all_bounded n [] h = refl
all_bounded n (c ∷ columns) h =
    joint (is_bounded (closed c)) (list_all is_bounded (map closed columns)) (column_bounded c (c.lower == c.upper) (c.lower == 0) h.0.bounds) (all_bounded n columns h.1)

-- at the end
abbrev ended : Program → Reading
ended p = record { stage = Ended; integers_open = false; objective = Some p.objective; rows = map sided p.rows; columns = map closed p.columns }

abbrev named : Reading
named = record first_reading { stage = Named }

rows_part : (p : Program) → IsProgram p → Leads named (rows_section p) (rows_read p.objective (map bare p.rows))
rows_part p h =
    let begun : Reading = record first_reading { stage = Rows } in
    let there = rows_read p.objective [] in
    let all = rows_read p.objective (map bare p.rows) in
    let objective : Reading = there in
    let new : is_new_name begun p.objective ≡ true = joint (is_name p.objective) true (name_keeps p.objective h.objective) refl in
    let head : Leads named (codes "ROWS" ∷ []) begun = leads_line named begun (codes "ROWS") refl refl in
    let line : Leads begun (spaced (codes "N" ∷ p.objective ∷ []) ∷ []) there =
    leads_spaced begun there (codes "N") (p.objective ∷ []) ((omega arith, refl), (name_field p.objective h.objective, tt)) (ap (λ (b : Bool). owes b cause.Name (Ok there)) new) in
    let rows : Leads there (map row_line p.rows) all = rows_lead p.objective [] p.rows (recursion_from_All IsRow p.rows h.rows) h.rows_apart in
    leads_on named begun all (codes "ROWS" ∷ []) (spaced (codes "N" ∷ p.objective ∷ []) ∷ map row_line p.rows) head
    (leads_on begun there all (spaced (codes "N" ∷ p.objective ∷ []) ∷ []) (map row_line p.rows) line rows)

columns_part : (p : Program) → IsProgram p → Leads (rows_read p.objective (map bare p.rows)) (columns_section p) (record (columns_read p.objective p.rows (map given p.columns)) { integers_open = false })
columns_part p h =
    let before = rows_read p.objective (map bare p.rows) in
    let begun : Reading = record (columns_read p.objective p.rows []) { integers_open = false } in
    let open_ = columns_read p.objective p.rows [] in
    let all = columns_read p.objective p.rows (map given p.columns) in
    let shut : Reading = record all { integers_open = false } in
    let lines = flat_map (column_lines p) p.columns in
    let known : AreKnown p.objective p.rows = record { objective_named = h.objective; rows_named = recursion_from_All IsRow p.rows h.rows; apart = h.rows_apart } in
    let head : Leads before (codes "COLUMNS" ∷ []) begun = leads_line before begun (codes "COLUMNS") refl refl in
    let opens : Leads begun (first_mark ∷ []) open_ = leads_line begun open_ first_mark refl refl in
    let columns : Leads open_ lines all = columns_lead p [] p.columns known (recursion_from_All (IsColumn (length p.rows)) p.columns h.columns) h.columns_apart in
    let shuts : Leads all (last_mark ∷ []) shut = leads_line all shut last_mark refl refl in
    leads_on before begun shut (codes "COLUMNS" ∷ []) (first_mark ∷ (lines ++ last_mark ∷ [])) head
    (leads_on begun open_ shut (first_mark ∷ []) (lines ++ last_mark ∷ []) opens
    (leads_on open_ all shut lines (last_mark ∷ []) columns shuts))

tail_apart : (x : List ℕ) (xs : List (List ℕ)) → AllPairs (λ x y. x ≢ y) (x ∷ xs) → AllPairs (λ x y. x ≢ y) xs
tail_apart x xs h = (λ i j d lt small. h (suc i) (suc j) d (omega arith) (omega arith))

rights_part : (p : Program) → IsProgram p → Leads (record (columns_read p.objective p.rows (map given p.columns)) { integers_open = false }) (rights_section p) (rights_read p.objective (map given p.columns) (map sided p.rows))
rights_part p h =
    let before : Reading = record (columns_read p.objective p.rows (map given p.columns)) { integers_open = false } in
    let begun = rights_read p.objective (map given p.columns) (map bare p.rows) in
    let all = rights_read p.objective (map given p.columns) (map sided p.rows) in
    let head : Leads before (codes "RHS" ∷ []) begun = leads_line before begun (codes "RHS") refl refl in
    let rights : Leads begun (flat_map right_lines p.rows) all = rights_lead p.objective (map given p.columns) [] p.rows (recursion_from_All IsRow p.rows h.rows) (tail_apart p.objective (map (λ row. row.name) p.rows) h.rows_apart) in
    leads_on before begun all (codes "RHS" ∷ []) (flat_map right_lines p.rows) head rights

bounds_part : (p : Program) → IsProgram p → Leads (rights_read p.objective (map given p.columns) (map sided p.rows)) (bounds_section p) (limits_read p.objective (map sided p.rows) (map closed p.columns))
bounds_part p h =
    let before = rights_read p.objective (map given p.columns) (map sided p.rows) in
    let begun = limits_read p.objective (map sided p.rows) (map given p.columns) in
    let all = limits_read p.objective (map sided p.rows) (map closed p.columns) in
    let head : Leads before (codes "BOUNDS" ∷ []) begun = leads_line before begun (codes "BOUNDS") refl refl in
    let bounds : Leads begun (flat_map bound_lines p.columns) all = bounds_lead (length p.rows) p.objective (map sided p.rows) [] p.columns (recursion_from_All (IsColumn (length p.rows)) p.columns h.columns) h.columns_apart in
    leads_on before begun all (codes "BOUNDS" ∷ []) (flat_map bound_lines p.columns) head bounds

whole_leads : (p : Program) → IsProgram p → Leads first_reading (mps_lines_of p) (ended p)
whole_leads p h =
    let rows = rows_read p.objective (map bare p.rows) in
    let columns : Reading = record (columns_read p.objective p.rows (map given p.columns)) { integers_open = false } in
    let rights = rights_read p.objective (map given p.columns) (map sided p.rows) in
    let limits = limits_read p.objective (map sided p.rows) (map closed p.columns) in
    let end = codes "ENDATA" ∷ [] in
    let bounds_hold = all_bounded (length p.rows) p.columns (recursion_from_All (IsColumn (length p.rows)) p.columns h.columns) in
    let name : Leads first_reading (codes "NAME vpack" ∷ []) named = leads_line first_reading named (codes "NAME vpack") refl refl in
    let last : Leads limits end (ended p) = leads_line limits (ended p) (codes "ENDATA") refl (ap (λ (b : Bool). owes b cause.Bound (Ok (ended p))) bounds_hold) in
    leads_on first_reading named (ended p) (codes "NAME vpack" ∷ []) (rows_section p ++ (columns_section p ++ (rights_section p ++ (bounds_section p ++ end)))) name
    (leads_on named rows (ended p) (rows_section p) (columns_section p ++ (rights_section p ++ (bounds_section p ++ end))) (rows_part p h)
    (leads_on rows columns (ended p) (columns_section p) (rights_section p ++ (bounds_section p ++ end)) (columns_part p h)
    (leads_on columns rights (ended p) (rights_section p) (bounds_section p ++ end) (rights_part p h)
    (leads_on rights limits (ended p) (bounds_section p) end (bounds_part p h) last))))

program_is : (p : Program) → IsProgram p → program_of (ended p) ≡ p
program_is p h =
    let rows = rows_are p.rows in
    let columns = columns_are (length p.rows) p.columns (recursion_from_All (IsColumn (length p.rows)) p.columns h.columns) in
    (λ i. record { objective = p.objective; rows = rows i; columns = columns i })

pub written : WrittenIsRead
written p h =
    let read = whole_leads p h 1 [] in
    let text : mps_text_of p ≡ mps_text_of p ++ [] = sym (append-nil (mps_text_of p)) in
    ap mps_meaning text ∙ (ap ends_with read.1 ∙ ap (λ (q : Program). Ok q) (program_is p h))
