-- Reading the rows that are written.
use Rattle.std.proofs.Common.{◌≡◌, ℕ, Bool, true, false, List, [], ◌∷◌, ◌++◌, Some, None, refl, sym, ap, ◌∙◌, subst, append_assoc, Ok, arith}
use Rattle.std.specs.Prelude.{is_none, map}
use Rattle.std.specs.List.{AllByRecursion}
use Rattle.std.proofs.lemmas.List.{append-nil, map-append}
use Rattle.flow_model.specs.declared.programs.RowKind.{RowKind}
use Rattle.flow_model.specs.declared.programs.RowKind.TheVariants.{Equal, Least, Most}
use Rattle.flow_model.specs.declared.programs.Row.{Row}
use Rattle.flow_model.specs.Programs.{IsRow, AreDistinct}
use Rattle.mps_text.specs.declared.faults.MpsCause.TheVariants as cause
use Rattle.mps_text.specs.declared.stages.Stage.TheVariants.{Rows}
use Rattle.mps_text.specs.Written.{kind_letter, row_line}
use Rattle.mps_text.specs.declared.parts.ReadRow.{ReadRow}
use Rattle.mps_text.specs.Meaning.{Reading, row_names, is_name, place_of, is_new_name, owes, with_row, rows_line}
use Rattle.mps_text.proofs.WrittenNumbers.{IsField, joint}
use Rattle.mps_text.proofs.NamePlaces.{name_field, name_keeps, name_new, place_new}
use Rattle.mps_text.proofs.Fields.{Leads, leads_none, leads_on, leads_spaced}

-- a row without its right side
abbrev pub bare : Row → ReadRow
bare row = record { name = row.name; kind = row.kind; right = None }

abbrev pub names_of : List Row → List (List ℕ)
names_of rows = map (λ row. row.name) rows

-- these rows are read
abbrev pub rows_read : List ℕ → List ReadRow → Reading
rows_read objective rows = record { stage = Rows; integers_open = false; objective = Some objective; rows = rows; columns = [] }

row_judged : (r : Reading) (k : RowKind) (name : List ℕ) → is_new_name r name ≡ true → rows_line r (kind_letter k ∷ name ∷ []) ≡ Ok (with_row r k name)
row_judged r Equal name h = ap (λ (z : Bool). owes z cause.Name (Ok (with_row r Equal name))) h
row_judged r Least name h = ap (λ (z : Bool). owes z cause.Name (Ok (with_row r Least name))) h
row_judged r Most name h = ap (λ (z : Bool). owes z cause.Name (Ok (with_row r Most name))) h

letter_field : (k : RowKind) → IsField (kind_letter k)
letter_field Equal = (omega arith, refl)
letter_field Least = (omega arith, refl)
letter_field Most = (omega arith, refl)

-- one more row keeps the names apart
names_on : (objective : List ℕ) (before : List ReadRow) (row : Row) (rows : List Row) → (objective ∷ row_names before) ++ (row.name ∷ names_of rows) ≡ objective ∷ (row_names (before ++ bare row ∷ []) ++ names_of rows)
names_on objective before row rows =
    ap (λ (z : List (List ℕ)). objective ∷ z) (sym (ap (λ (z : List (List ℕ)). z ++ names_of rows) (map-append (λ r. r.name) before (bare row ∷ [])) ∙ append_assoc (row_names before) (row.name ∷ []) (names_of rows)))

pub rows_lead : (objective : List ℕ) (before : List ReadRow) (rows : List Row) → AllByRecursion IsRow rows → AreDistinct (objective ∷ (row_names before ++ names_of rows)) → Leads (rows_read objective before) (map row_line rows) (rows_read objective (before ++ map bare rows))
rows_lead objective before [] h apart = subst (λ (z : List ReadRow). Leads (rows_read objective before) [] (rows_read objective z)) (sym (append-nil before)) (leads_none (rows_read objective before))
rows_lead objective before (row ∷ rows) h apart =
    let r = rows_read objective before in
    let after = before ++ bare row ∷ [] in
    let new : is_new_name r row.name ≡ true = joint (is_name row.name) (is_none (place_of row.name (objective ∷ row_names before))) (name_keeps row.name h.0.name) (ap is_none (place_new row.name (objective ∷ row_names before) (name_new row.name (objective ∷ row_names before) (names_of rows) apart))) in
    let first = leads_spaced r (rows_read objective after) (kind_letter row.kind) (row.name ∷ []) (letter_field row.kind, (name_field row.name h.0.name, tt)) (row_judged r row.kind row.name new) in
    let then = rows_lead objective after rows h.1 (subst AreDistinct (names_on objective before row rows) apart) in
    subst (λ (z : List ReadRow). Leads r (row_line row ∷ map row_line rows) (rows_read objective z)) (append_assoc before (bare row ∷ []) (map bare rows))
    (leads_on r (rows_read objective after) (rows_read objective (after ++ map bare rows)) (row_line row ∷ []) (map row_line rows) first then)
