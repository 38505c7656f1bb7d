-- Reading the right sides and the bounds that are written.
use Rattle.std.proofs.Common.{◌≡◌, ℕ, ◌≤◌, ◌^◌, Bool, true, false, List, [], ◌∷◌, ◌++◌, length, Option, Some, None, ℤ, refl, sym, ap, ◌∙◌, subst, append_assoc, arith}
use Rattle.std.specs.Prelude.{◌==◌, map, flat_map, codes, decimal, if◌then◌else◌}
use Rattle.std.specs.List.{AllByRecursion}
use Rattle.std.proofs.lemmas.List.{map-append, length-map}
use Rattle.arc_num.specs.Decimals.{signed_decimal}
use Rattle.flow_model.specs.declared.programs.Row.{Row}
use Rattle.flow_model.specs.declared.programs.Column.{Column}
use Rattle.flow_model.specs.Programs.{IsName, IsRow, IsColumn, AreDistinct}
use Rattle.mps_text.specs.declared.stages.Stage.TheVariants.{Rights, Limits}
use Rattle.mps_text.specs.declared.stages.BoundKind.{BoundKind}
use Rattle.mps_text.specs.declared.stages.BoundKind.TheVariants.{Upper, Lower, Fixed}
use Rattle.mps_text.specs.Written.{is_zero, spaced, right_lines, bound_line, bound_lines}
use Rattle.mps_text.specs.declared.parts.ReadRow.{ReadRow}
use Rattle.mps_text.specs.declared.parts.ReadColumn.{ReadColumn}
use Rattle.mps_text.specs.Meaning.{Reading, row_names, column_names, place_of, with_right, with_bound, bound_kind_in}
use Rattle.mps_text.proofs.WrittenNumbers.{IsField, signed_field, decimal_field, value_written, bound_written}
use Rattle.mps_text.proofs.NamePlaces.{name_field, place_found}
use Rattle.mps_text.proofs.Fields.{Leads, leads_none, leads_on, leads_spaced}
use Rattle.mps_text.proofs.Rows.{bare, names_of}
use Rattle.mps_text.proofs.Columns.{bare_names, given, column_names_of}
use Rattle.mps_text.proofs.Changes.{change_seam, rights_line_gives, bounds_line_gives}

-- a right side that is not 0
abbrev pub unless_zero : Bool → ℤ → Option ℤ
unless_zero b z = if b then None else Some z

-- a row with its right side, where it is not 0
abbrev pub sided : Row → ReadRow
sided row = record { name = row.name; kind = row.kind; right = unless_zero (is_zero row.right) row.right }

-- right sides may follow
abbrev pub rights_read : List ℕ → List ReadColumn → List ReadRow → Reading
rights_read objective columns rows = record { stage = Rights; integers_open = false; objective = Some objective; rows = rows; columns = columns }

-- the names of the rows, with one of them in the middle
names_around : (before : List ReadRow) (row : Row) (rows : List Row) → row_names (before ++ bare row ∷ map bare rows) ≡ row_names before ++ row.name ∷ names_of rows
names_around before row rows = map-append (λ r. r.name) before (bare row ∷ map bare rows) ∙ ap (λ (z : List (List ℕ)). row_names before ++ row.name ∷ z) (bare_names rows)

right_leads : (objective : List ℕ) (columns : List ReadColumn) (before : List ReadRow) (row : Row) (rows : List Row) (b : Bool)
    → IsRow row → AreDistinct (row_names before ++ row.name ∷ names_of rows)
    → Leads (rights_read objective columns (before ++ bare row ∷ map bare rows)) (if b then [] else spaced (codes "RHS" ∷ row.name ∷ signed_decimal row.right ∷ []) ∷ [])
    (rights_read objective columns (before ++ record { name = row.name; kind = row.kind; right = unless_zero b row.right } ∷ map bare rows))
right_leads objective columns before row rows true lawful apart = leads_none (rights_read objective columns (before ++ bare row ∷ map bare rows))
right_leads objective columns before row rows false lawful apart =
    let after : ReadRow = record { name = row.name; kind = row.kind; right = Some row.right } in
    let r = rights_read objective columns (before ++ bare row ∷ map bare rows) in
    let place : place_of row.name (row_names (before ++ bare row ∷ map bare rows)) ≡ Some (length before) =
    ap (place_of row.name) (names_around before row rows) ∙ (place_found row.name (row_names before) (names_of rows) apart ∙ ap (λ (n : ℕ). Some n) (length-map before (λ x. x.name))) in
    leads_spaced r (rights_read objective columns (before ++ after ∷ map bare rows)) (codes "RHS") (row.name ∷ signed_decimal row.right ∷ [])
    ((omega arith, refl), (name_field row.name lawful.name, (signed_field row.right lawful.right, tt)))
    (rights_line_gives r (codes "RHS") row.name (signed_decimal row.right) (before ++ after ∷ map bare rows) (length before) row.right refl place (value_written row.right lawful.right)
    (change_seam (with_right row.right) before (bare row) after (map bare rows) refl))

-- one more row keeps the names apart
names_on : (before : List ReadRow) (row : Row) (rows : List Row) → row_names before ++ (row.name ∷ names_of rows) ≡ row_names (before ++ sided row ∷ []) ++ names_of rows
names_on before row rows =
    sym (ap (λ (z : List (List ℕ)). z ++ names_of rows) (map-append (λ r. r.name) before (sided row ∷ [])) ∙ append_assoc (row_names before) (row.name ∷ []) (names_of rows))

pub rights_lead : (objective : List ℕ) (columns : List ReadColumn) (before : List ReadRow) (rows : List Row) → AllByRecursion IsRow rows → AreDistinct (row_names before ++ names_of rows)
    → Leads (rights_read objective columns (before ++ map bare rows)) (flat_map right_lines rows) (rights_read objective columns (before ++ map sided rows))
rights_lead objective columns before [] lawful apart = leads_none (rights_read objective columns (before ++ []))
rights_lead objective columns before (row ∷ rows) lawful apart =
    let state = rights_read objective columns in
    let one = right_leads objective columns before row rows (is_zero row.right) lawful.0 apart in
    let all = rights_lead objective columns (before ++ sided row ∷ []) rows lawful.1 (subst AreDistinct (names_on before row rows) apart) in
    let from = subst (λ (z : List ReadRow). Leads (state z) (flat_map right_lines rows) (state ((before ++ sided row ∷ []) ++ map sided rows))) (append_assoc before (sided row ∷ []) (map bare rows)) all in
    let to = subst (λ (z : List ReadRow). Leads (state (before ++ sided row ∷ map bare rows)) (flat_map right_lines rows) (state z)) (append_assoc before (sided row ∷ []) (map sided rows)) from in
    leads_on (state (before ++ bare row ∷ map bare rows)) (state (before ++ sided row ∷ map bare rows)) (state (before ++ sided row ∷ map sided rows)) (right_lines row) (flat_map right_lines rows) one to

-- a bound that is written, and one that is not
abbrev pub if_so : Bool → ℕ → Option ℕ
if_so b n = if b then Some n else None

abbrev pub if_not : Bool → ℕ → Option ℕ
if_not b n = if b then None else Some n

-- a column with these bounds
abbrev pub bounded : Column → Bool → Bool → ReadColumn
bounded c one none = record (given c) { fixed = if_so one c.upper; lower = if one then None else if_not none c.lower; upper = if_not one c.upper }

abbrev pub closed : Column → ReadColumn
closed c = bounded c (c.lower == c.upper) (c.lower == 0)

-- bounds may follow
abbrev pub limits_read : List ℕ → List ReadRow → List ReadColumn → Reading
limits_read objective rows columns = record { stage = Limits; integers_open = false; objective = Some objective; rows = rows; columns = columns }

given_names : (columns : List Column) → column_names (map given columns) ≡ column_names_of columns
given_names [] = refl
given_names (c ∷ columns) = ap (λ (z : List (List ℕ)). c.name ∷ z) (given_names columns)

-- the names of the columns, with one of them in the middle
columns_around : (before : List ReadColumn) (c : ReadColumn) (columns : List Column) → column_names (before ++ c ∷ map given columns) ≡ column_names before ++ c.name ∷ column_names_of columns
columns_around before c columns = map-append (λ r. r.name) before (c ∷ map given columns) ∙ ap (λ (z : List (List ℕ)). column_names before ++ c.name ∷ z) (given_names columns)

-- one line gives one bound
bound_leads : (objective : List ℕ) (rows : List ReadRow) (before : List ReadColumn) (x y : ReadColumn) (c : Column) (columns : List Column) (kind : List ℕ) (k : BoundKind) (value : ℕ)
    → IsName c.name → x.name ≡ c.name → AreDistinct (column_names before ++ c.name ∷ column_names_of columns) → IsField kind → bound_kind_in kind ≡ Some k → value ≤ 2 ^ 62 → with_bound k value x ≡ Some y
    → Leads (limits_read objective rows (before ++ x ∷ map given columns)) (bound_line kind c value ∷ []) (limits_read objective rows (before ++ y ∷ map given columns))
bound_leads objective rows before x y c columns kind k value named same apart field kind_is small gives =
    let r = limits_read objective rows (before ++ x ∷ map given columns) in
    let names : column_names (before ++ x ∷ map given columns) ≡ column_names before ++ c.name ∷ column_names_of columns =
    columns_around before x columns ∙ ap (λ (z : List ℕ). column_names before ++ z ∷ column_names_of columns) same in
    let place : place_of c.name (column_names (before ++ x ∷ map given columns)) ≡ Some (length before) =
    ap (place_of c.name) names ∙ (place_found c.name (column_names before) (column_names_of columns) apart ∙ ap (λ (n : ℕ). Some n) (length-map before (λ x. x.name))) in
    leads_spaced r (limits_read objective rows (before ++ y ∷ map given columns)) kind (codes "BND" ∷ c.name ∷ decimal value ∷ [])
    (field, ((omega arith, refl), (name_field c.name named, (decimal_field value small, tt))))
    (bounds_line_gives r kind (codes "BND") c.name (decimal value) (before ++ y ∷ map given columns) k (length before) value kind_is refl place (bound_written value small)
    (change_seam (with_bound k value) before x y (map given columns) gives))

abbrev lines_for : Column → Bool → Bool → List (List ℕ)
lines_for c one none =
    if one then bound_line (codes "FX") c c.upper ∷ []
    else (if none then [] else bound_line (codes "LO") c c.lower ∷ []) ++ bound_line (codes "UP") c c.upper ∷ []

close_leads : (objective : List ℕ) (rows : List ReadRow) (before : List ReadColumn) (c : Column) (columns : List Column) (one none : Bool)
    → IsName c.name → c.lower ≤ 2 ^ 62 → c.upper ≤ 2 ^ 62 → AreDistinct (column_names before ++ c.name ∷ column_names_of columns)
    → Leads (limits_read objective rows (before ++ given c ∷ map given columns)) (lines_for c one none) (limits_read objective rows (before ++ bounded c one none ∷ map given columns))
close_leads objective rows before c columns true none named low high apart =
    bound_leads objective rows before (given c) (bounded c true none) c columns (codes "FX") Fixed c.upper named refl apart (omega arith, refl) refl high refl
close_leads objective rows before c columns false true named low high apart =
    bound_leads objective rows before (given c) (bounded c false true) c columns (codes "UP") Upper c.upper named refl apart (omega arith, refl) refl high refl
close_leads objective rows before c columns false false named low high apart =
    let lower : ReadColumn = record (given c) { lower = Some c.lower } in
    let state = limits_read objective rows in
    leads_on (state (before ++ given c ∷ map given columns)) (state (before ++ lower ∷ map given columns)) (state (before ++ bounded c false false ∷ map given columns)) (bound_line (codes "LO") c c.lower ∷ []) (bound_line (codes "UP") c c.upper ∷ [])
    (bound_leads objective rows before (given c) lower c columns (codes "LO") Lower c.lower named refl apart (omega arith, refl) refl low refl)
    (bound_leads objective rows before lower (bounded c false false) c columns (codes "UP") Upper c.upper named refl apart (omega arith, refl) refl high refl)

closed_names_on : (before : List ReadColumn) (c : Column) (columns : List Column) → column_names before ++ (c.name ∷ column_names_of columns) ≡ column_names (before ++ closed c ∷ []) ++ column_names_of columns
closed_names_on before c columns =
    sym (ap (λ (z : List (List ℕ)). z ++ column_names_of columns) (map-append (λ r. r.name) before (closed c ∷ [])) ∙ append_assoc (column_names before) (c.name ∷ []) (column_names_of columns))

pub bounds_lead : (n : ℕ) (objective : List ℕ) (rows : List ReadRow) (before : List ReadColumn) (columns : List Column) → AllByRecursion (IsColumn n) columns → AreDistinct (column_names before ++ column_names_of columns)
    → Leads (limits_read objective rows (before ++ map given columns)) (flat_map bound_lines columns) (limits_read objective rows (before ++ map closed columns))
bounds_lead n objective rows before [] lawful apart = leads_none (limits_read objective rows (before ++ []))
bounds_lead n objective rows before (c ∷ columns) lawful apart =
    let state = limits_read objective rows in
    let keeps = lawful.0 in
    let ordered = keeps.bounds in
    let high = keeps.upper in
    let one = close_leads objective rows before c columns (c.lower == c.upper) (c.lower == 0) keeps.name (omega arith) high apart in
    let all = bounds_lead n objective rows (before ++ closed c ∷ []) columns lawful.1 (subst AreDistinct (closed_names_on before c columns) apart) in
    let from = subst (λ (z : List ReadColumn). Leads (state z) (flat_map bound_lines columns) (state ((before ++ closed c ∷ []) ++ map closed columns))) (append_assoc before (closed c ∷ []) (map given columns)) all in
    let to = subst (λ (z : List ReadColumn). Leads (state (before ++ closed c ∷ map given columns)) (flat_map bound_lines columns) (state z)) (append_assoc before (closed c ∷ []) (map closed columns)) from in
    leads_on (state (before ++ given c ∷ map given columns)) (state (before ++ closed c ∷ map given columns)) (state (before ++ closed c ∷ map closed columns)) (bound_lines c) (flat_map bound_lines columns) one to
