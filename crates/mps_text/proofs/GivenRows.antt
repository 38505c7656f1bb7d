-- The rows and the objective that a text names.
use Rattle.std.proofs.Common.{◌≡◌, ℕ, Bool, true, false, List, [], ◌∷◌, ◌++◌, Option, Some, None, Ok, inl, inr, refl, sym, ap, ◌∙◌, append_assoc, cond}
use Rattle.std.specs.Prelude.{not, is_none, codes, map, filter, option_to_list, if◌then◌else◌, ◌⊎◌}
use Rattle.std.proofs.lemmas.List.{append-nil, map-append}
use Rattle.flow_model.specs.declared.programs.RowKind.{RowKind}
use Rattle.flow_model.specs.declared.programs.RowKind.TheVariants.{Equal, Least, Most}
use Rattle.mps_text.specs.declared.parts.ReadRow.{ReadRow}
use Rattle.mps_text.specs.declared.parts.ReadColumn.{ReadColumn}
use Rattle.mps_text.specs.Written.{kind_letter}
use Rattle.mps_text.specs.Meaning.{Reading, row_names, rows_line, columns_line}
use Rattle.mps_text.specs.Given.{names_objective}
use Rattle.mps_text.proofs.NamePlaces.{same}
use Rattle.mps_text.proofs.Steps.{row_taken, columns_taken, IsObjective, IsNamedRow, IsMarkLine, AreValues}
use Rattle.mps_text.proofs.SideSteps.{rights_taken, bound_taken}
use Rattle.mps_text.proofs.SoundParts.{values_small}
use Rattle.mps_text.proofs.SoundLines.{sides_sound}
use Rattle.mps_text.proofs.Follow.{added, IsFollowed}

-- Rows.

abbrev pub row_fields : ReadRow → List (List ℕ)
row_fields row = kind_letter row.kind ∷ row.name ∷ []

abbrev pub rows_told : Reading → List (List (List ℕ))
rows_told r = map row_fields r.rows

abbrev pub row_adds : List (List (List ℕ)) → List (List ℕ) → List (List (List ℕ))
row_adds rows fields = if names_objective fields then rows else rows ++ fields ∷ []

no_objective : (k : RowKind) (name : List ℕ) → names_objective (kind_letter k ∷ name ∷ []) ≡ false
no_objective Equal name = refl
no_objective Least name = refl
no_objective Most name = refl

row_added : (r : Reading) (fields : List (List ℕ)) (s : Reading) → rows_line r fields ≡ Ok s → rows_told s ≡ row_adds (rows_told r) fields
row_added r fields s h = by (row_taken r fields s h)
  where
    by : IsObjective r fields s ⊎ IsNamedRow r fields s → rows_told s ≡ row_adds (rows_told r) fields
    by (inl o) = ap rows_told (sym o.after) ∙ ap (λ (z : List (List ℕ)). row_adds (rows_told r) z) (sym o.is)
    by (inr o) =
        let fresh : ReadRow = record { name = o.name; kind = o.kind; right = None } in
        ap rows_told (sym o.after) ∙ (map-append row_fields r.rows (fresh ∷ [])
        ∙ (ap (λ (b : Bool). if b then rows_told r else rows_told r ++ row_fields fresh ∷ []) (sym (no_objective o.kind o.name))
        ∙ ap (λ (z : List (List ℕ)). row_adds (rows_told r) z) (sym o.is)))

-- rows with the same names and kinds have the same fields
fields_same : (xs ys : List ReadRow) → row_names xs ≡ row_names ys → map (λ (x : ReadRow). x.kind) xs ≡ map (λ (x : ReadRow). x.kind) ys → map row_fields xs ≡ map row_fields ys
fields_same [] [] names kinds = refl
fields_same [] (y ∷ ys) names kinds = absurd (cc)
fields_same (x ∷ xs) [] names kinds = absurd (cc)
fields_same (x ∷ xs) (y ∷ ys) names kinds =
    let name : x.name ≡ y.name = cc in
    let kind : x.kind ≡ y.kind = cc in
    let rest : row_names xs ≡ row_names ys = cc in
    let others : map (λ (x : ReadRow). x.kind) xs ≡ map (λ (x : ReadRow). x.kind) ys = cc in
    (λ i. (kind_letter (kind i) ∷ name i ∷ []) ∷ fields_same xs ys rest others i)

pub rows_by_values : {V : Type 0} (told : Reading → V) → ((r : Reading) (integers : Bool) → told (record r { integers_open = integers }) ≡ told r) → ((r : Reading) (columns : List ReadColumn) → told (record r { columns = columns }) ≡ told r)
    → (r : Reading) (fields : List (List ℕ)) (s : Reading) → columns_line r fields ≡ Ok s → told s ≡ told r
rows_by_values {V} told mark values r fields s h = by (columns_taken r fields s h)
  where
    by : IsMarkLine r fields s ⊎ AreValues r fields s → told s ≡ told r
    by (inl o) = ap told (sym o.after) ∙ mark r o.integers_open
    by (inr o) = ap told (sym o.after) ∙ values r o.changed

pub rows_followed : IsFollowed rows_told row_adds (codes "ROWS")
rows_followed = record {
  heading = (λ r stage. refl);
  rows = (λ r fields s sound at h. row_added r fields s h);
  columns = (λ r fields s sound h. rows_by_values rows_told (λ r integers. refl) (λ r columns. refl) r fields s h);
  rights = (λ r fields s sound h.
      let v = rights_taken r fields s h in
      let sided = sides_sound v.places v.numbers r.rows v.changed (values_small v.values v.numbers v.numbers_are) v.change in
      ap rows_told (sym v.after) ∙ fields_same v.changed r.rows sided.same.names sided.same.kinds);
  bounds = (λ r fields s sound h. let v = bound_taken r fields s h in ap rows_told (sym v.after));
}

pub rows_all : (rows : List (List (List ℕ))) (lines : List (List (List ℕ))) → added row_adds rows lines ≡ rows ++ filter (λ fields. not (names_objective fields)) lines
rows_all rows [] = sym (append-nil rows)
rows_all rows (fields ∷ lines) = by (names_objective fields) (rows_all rows lines) (rows_all (rows ++ fields ∷ []) lines)
  where
    by : (b : Bool) → added row_adds rows lines ≡ rows ++ filter (λ fields. not (names_objective fields)) lines → added row_adds (rows ++ fields ∷ []) lines ≡ (rows ++ fields ∷ []) ++ filter (λ fields. not (names_objective fields)) lines
        → added row_adds (if b then rows else rows ++ fields ∷ []) lines ≡ rows ++ cond (not b) (fields ∷ filter (λ fields. not (names_objective fields)) lines) (filter (λ fields. not (names_objective fields)) lines)
    by true same more = same
    by false same more = more ∙ append_assoc rows (fields ∷ []) (filter (λ fields. not (names_objective fields)) lines)

-- The objective.

abbrev pub objective_told : Reading → List (List (List ℕ))
objective_told r = map (λ name. codes "N" ∷ name ∷ []) (option_to_list r.objective)

abbrev pub objective_adds : List (List (List ℕ)) → List (List ℕ) → List (List (List ℕ))
objective_adds names fields = if names_objective fields then names ++ fields ∷ [] else names

none_told : (o : Option (List ℕ)) → is_none o ≡ true → map (λ name. codes "N" ∷ name ∷ []) (option_to_list o) ≡ []
none_told None h = refl
none_told (Some x) h = absurd (cc)

objective_added : (r : Reading) (fields : List (List ℕ)) (s : Reading) → rows_line r fields ≡ Ok s → objective_told s ≡ objective_adds (objective_told r) fields
objective_added r fields s h = by (row_taken r fields s h)
  where
    by : IsObjective r fields s ⊎ IsNamedRow r fields s → objective_told s ≡ objective_adds (objective_told r) fields
    by (inl o) =
        ap objective_told (sym o.after)
        ∙ (ap (λ (z : List (List (List ℕ))). z ++ (codes "N" ∷ o.name ∷ []) ∷ []) (sym (none_told r.objective o.first))
        ∙ ap (λ (z : List (List ℕ)). objective_adds (objective_told r) z) (sym o.is))
    by (inr o) =
        ap objective_told (sym o.after)
        ∙ (ap (λ (b : Bool). if b then objective_told r ++ (kind_letter o.kind ∷ o.name ∷ []) ∷ [] else objective_told r) (sym (no_objective o.kind o.name))
        ∙ ap (λ (z : List (List ℕ)). objective_adds (objective_told r) z) (sym o.is))

pub objective_followed : IsFollowed objective_told objective_adds (codes "ROWS")
objective_followed = record {
  heading = (λ r stage. refl);
  rows = (λ r fields s sound at h. objective_added r fields s h);
  columns = (λ r fields s sound h. rows_by_values objective_told (λ r integers. refl) (λ r columns. refl) r fields s h);
  rights = (λ r fields s sound h. let v = rights_taken r fields s h in ap objective_told (sym v.after));
  bounds = (λ r fields s sound h. let v = bound_taken r fields s h in ap objective_told (sym v.after));
}

pub objective_all : (names : List (List (List ℕ))) (lines : List (List (List ℕ))) → added objective_adds names lines ≡ names ++ filter names_objective lines
objective_all names [] = sym (append-nil names)
objective_all names (fields ∷ lines) = by (names_objective fields) (objective_all names lines) (objective_all (names ++ fields ∷ []) lines)
  where
    by : (b : Bool) → added objective_adds names lines ≡ names ++ filter names_objective lines → added objective_adds (names ++ fields ∷ []) lines ≡ (names ++ fields ∷ []) ++ filter names_objective lines
        → added objective_adds (if b then names ++ fields ∷ [] else names) lines ≡ names ++ cond b (fields ∷ filter names_objective lines) (filter names_objective lines)
    by true same more = more ∙ append_assoc names (fields ∷ []) (filter names_objective lines)
    by false same more = same
