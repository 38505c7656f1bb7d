-- The columns that a text names.
use Rattle.std.proofs.Common.{suc, zero, ◌≡◌, ℕ, ◌+◌, ◌-◌, ◌<◌, Bool, true, false, List, [], ◌∷◌, ◌++◌, length, Option, Some, None, Ok, inl, inr, refl, sym, ap, ◌∙◌, subst, append_assoc, cond, get_or, arith, length-append}
use Rattle.std.specs.Prelude.{◌&&◌, ◌||◌, ◌==◌, not, codes, bytes_eq, map, filter, flat_map, if◌then◌else◌, ◌⊎◌}
use Rattle.std.specs.List.{list_any}
use Rattle.std.specs.Option.{option_or}
use Rattle.std.proofs.lemmas.Bool.Decides.{nat_tests}
use Rattle.std.proofs.lemmas.List.{append-nil, map-append, length-map}
use Rattle.std.proofs.lemmas.List.Quantifiers.{position-Some}
use Rattle.flow_model.specs.declared.programs.RowKind.{RowKind}
use Rattle.mps_text.specs.declared.parts.ReadColumn.{ReadColumn}
use Rattle.mps_text.specs.Meaning.{Reading, column_names, place_of, is_name, new_column, columns_ending, columns_with, with_objective, with_row, rows_line, columns_line, with_values, with_bound}
use Rattle.mps_text.specs.Given.{Cell, is_mark, cells_of, each_once, first_given}
use Rattle.mps_text.proofs.NamePlaces.{same, seam}
use Rattle.mps_text.proofs.Places.{none_passes}
use Rattle.arc_num.proofs.Places.{place_none}
use Rattle.mps_text.proofs.Steps.{same_bytes, row_taken, columns_taken, cells_for, IsObjective, IsNamedRow, IsMarkLine, AreValues}
use Rattle.mps_text.proofs.SideSteps.{rights_taken, bound_taken}
use Rattle.mps_text.proofs.SoundParts.{same_changed, name_by_values, name_by_bound}
use Rattle.mps_text.proofs.Follow.{added, IsFollowed}

-- Columns.

abbrev pub columns_told : Reading → List (List ℕ)
columns_told r = column_names r.columns

-- one more name, where it is new
abbrev pub with_name : List (List ℕ) → List ℕ → List (List ℕ)
with_name names name = if list_any (bytes_eq name) names then names else names ++ name ∷ []

abbrev pub with_names : List (List ℕ) → List (List ℕ) → List (List ℕ)
with_names names [] = names
with_names names (name ∷ more) = with_names (with_name names name) more

abbrev pub columns_in : List (List ℕ) → List (List ℕ)
columns_in fields = map (λ cell. cell.column) (cells_of fields)

abbrev pub column_adds : List (List ℕ) → List (List ℕ) → List (List ℕ)
column_adds names fields = if is_mark fields then names else with_names names (columns_in fields)

any_end : (names : List (List ℕ)) (name : List ℕ) → list_any (bytes_eq name) (names ++ name ∷ []) ≡ true
any_end [] name = ap (λ (b : Bool). b || false) (same name)
any_end (x ∷ names) name = by (bytes_eq name x) (any_end names name)
  where
    by : (b : Bool) → list_any (bytes_eq name) (names ++ name ∷ []) ≡ true → (b || list_any (bytes_eq name) (names ++ name ∷ [])) ≡ true
    by true h = refl
    by false h = h

twice_named : (names : List (List ℕ)) (name : List ℕ) → with_name (with_name names name) name ≡ with_name names name
twice_named names name = by (list_any (bytes_eq name) names) refl
  where
    by : (b : Bool) → list_any (bytes_eq name) names ≡ b → with_name (if b then names else names ++ name ∷ []) name ≡ (if b then names else names ++ name ∷ [])
    by true e = ap (λ (b : Bool). if b then names else names ++ name ∷ []) e
    by false e = ap (λ (b : Bool). if b then names ++ name ∷ [] else (names ++ name ∷ []) ++ name ∷ []) (any_end names name)

again_named : (names : List (List ℕ)) (name : List ℕ) (rows values : List (List ℕ)) → with_names (with_name names name) (map (λ (cell : Cell). cell.column) (cells_for name rows values)) ≡ with_name names name
again_named names name [] values = refl
again_named names name (row ∷ rows) [] = refl
again_named names name (row ∷ rows) (value ∷ values) =
    ap (λ (z : List (List ℕ)). with_names z (map (λ (cell : Cell). cell.column) (cells_for name rows values))) (twice_named names name) ∙ again_named names name rows values

passes_at : (p : List ℕ → Bool) (xs : List (List ℕ)) (i : ℕ) (d : List ℕ) → i < length xs → p (get_or xs i d) ≡ true → list_any p xs ≡ true
passes_at p [] i d lt h = absurd (omega arith)
passes_at p (x ∷ xs) zero d lt h = ap (λ (b : Bool). b || list_any p xs) h
passes_at p (x ∷ xs) (suc i) d lt h = by (p x) (passes_at p xs i d (omega arith) h)
  where
    by : (b : Bool) → list_any p xs ≡ true → (b || list_any p xs) ≡ true
    by true h = refl
    by false h = h

-- the column that a line names is the last one
pub record IsLast {B : Type 0} (f : ReadColumn → Option B) (name : List ℕ) (columns opened : List ReadColumn) : Type 0 where
  pub names : column_names opened ≡ with_name (column_names columns) name
  pub last : get_or (column_names opened) (length opened - 1) [] ≡ name
  pub given : f (new_column name) ≡ None → first_given f opened ≡ first_given f columns

pub given_append : {A B : Type 0} (f : A → Option B) (xs ys : List A) → first_given f (xs ++ ys) ≡ option_or (first_given f xs) (first_given f ys)
given_append f [] ys = refl
given_append {A} {B} f (x ∷ xs) ys = by (f x) (given_append f xs ys)
  where
    by : (o : Option B) → first_given f (xs ++ ys) ≡ option_or (first_given f xs) (first_given f ys) → option_or o (first_given f (xs ++ ys)) ≡ option_or (option_or o (first_given f xs)) (first_given f ys)
    by None h = h
    by (Some y) h = refl

pub or_none : {B : Type 0} (o : Option B) → option_or o None ≡ o
or_none None = refl
or_none (Some x) = refl

pub last_opened : {B : Type 0} (f : ReadColumn → Option B) (name : List ℕ) (columns opened : List ReadColumn) → columns_with name columns ≡ Some opened → IsLast f name columns opened
last_opened {B} f name columns opened h = by (place_of name (column_names columns)) refl h
  where
    names : List (List ℕ)
    names = column_names columns

    size : length names ≡ length columns
    size = length-map columns (λ (c : ReadColumn). c.name)

    fresh : (b : Bool) → place_of name names ≡ None → (if b then Some (columns ++ new_column name ∷ []) else None) ≡ Some opened → IsLast f name columns opened
    fresh false none h = absurd (cc)
    fresh true none h =
        let is : columns ++ new_column name ∷ [] ≡ opened = cc in
        let more : column_names (columns ++ new_column name ∷ []) ≡ names ++ name ∷ [] = map-append (λ (c : ReadColumn). c.name) columns (new_column name ∷ []) in
        let out : list_any (bytes_eq name) names ≡ false = none_passes (bytes_eq name) names (place_none (bytes_eq name) names none) in
        let place : length (columns ++ new_column name ∷ []) - 1 ≡ length names = let n = length-append columns (new_column name ∷ []) in let m = size in omega arith in
        subst (λ (z : List ReadColumn). IsLast f name columns z) is (record {
          names = more ∙ ap (λ (b : Bool). if b then names else names ++ name ∷ []) (sym out);
          last = ap (λ (z : List (List ℕ)). get_or z (length (columns ++ new_column name ∷ []) - 1) []) more ∙ (ap (λ (n : ℕ). get_or (names ++ name ∷ []) n []) place ∙ seam names name [] []);
          given = (λ e. given_append f columns (new_column name ∷ []) ∙ (ap (λ (o : Option B). option_or (first_given f columns) (option_or o None)) e ∙ or_none (first_given f columns)));
        })

    stands : (place : ℕ) (b : Bool) → place_of name names ≡ Some place → (place + 1 == length columns) ≡ b → (if b then Some columns else None) ≡ Some opened → IsLast f name columns opened
    stands place false e last h = absurd (cc)
    stands place true e last h =
        let is : columns ≡ opened = cc in
        let there = position-Some (bytes_eq name) names place [] e in
        let at : place ≡ length columns - 1 = grind (arith, nat_tests) in
        subst (λ (z : List ReadColumn). IsLast f name columns z) is (record {
          names = ap (λ (b : Bool). if b then names else names ++ name ∷ []) (sym (passes_at (bytes_eq name) names place [] there.0 there.1));
          last = ap (λ (n : ℕ). get_or names n []) (sym at) ∙ sym (same_bytes name (get_or names place []) there.1);
          given = (λ e. refl);
        })

    by : (o : Option ℕ) → place_of name names ≡ o → columns_ending name columns o ≡ Some opened → IsLast f name columns opened
    by None e h = fresh (is_name name) e h
    by (Some place) e h = stands place (place + 1 == length columns) e refl h

some_named : (names : List (List ℕ)) (name : List ℕ) (rows values : List (List ℕ)) (row : List ℕ) (rest : List (List ℕ)) (value : List ℕ) (others : List (List ℕ)) → rows ≡ row ∷ rest → values ≡ value ∷ others
    → with_name names name ≡ with_names names (map (λ (cell : Cell). cell.column) (cells_for name rows values))
some_named names name rows values row rest value others r v =
    sym (again_named names name rest others) ∙ (λ i. with_names names (map (λ (cell : Cell). cell.column) (cells_for name (sym r i) (sym v i))))

column_added : (r : Reading) (fields : List (List ℕ)) (s : Reading) → columns_line r fields ≡ Ok s → columns_told s ≡ column_adds (columns_told r) fields
column_added r fields s h = by (columns_taken r fields s h)
  where
    by : IsMarkLine r fields s ⊎ AreValues r fields s → columns_told s ≡ column_adds (columns_told r) fields
    by (inl o) = ap columns_told (sym o.after) ∙ ap (λ (b : Bool). if b then columns_told r else with_names (columns_told r) (columns_in fields)) (sym o.marked)
    by (inr v) =
        let last = last_opened (λ c. c.cost) v.name r.columns v.columns v.with in
        let kept = same_changed (λ (c : ReadColumn). c.name) (with_values v.targets v.numbers) (length v.columns - 1) v.columns v.changed (λ c d gives. name_by_values v.targets v.numbers c d gives) v.change in
        ap columns_told (sym v.after) ∙ (kept ∙ (last.names
        ∙ (some_named (columns_told r) v.name v.rows v.values v.row v.rest v.value v.others v.rows_are v.values_are
        ∙ (ap (λ (z : List Cell). with_names (columns_told r) (map (λ (cell : Cell). cell.column) z)) (sym v.cells)
        ∙ ap (λ (b : Bool). if b then columns_told r else with_names (columns_told r) (columns_in fields)) (sym v.unmarked)))))

pub columns_by_rows : {V : Type 0} (told : Reading → V) → ((r : Reading) (name : List ℕ) → told (with_objective r name) ≡ told r) → ((r : Reading) (kind : RowKind) (name : List ℕ) → told (with_row r kind name) ≡ told r)
    → (r : Reading) (fields : List (List ℕ)) (s : Reading) → rows_line r fields ≡ Ok s → told s ≡ told r
columns_by_rows {V} told objective row r fields s h = by (row_taken r fields s h)
  where
    by : IsObjective r fields s ⊎ IsNamedRow r fields s → told s ≡ told r
    by (inl o) = ap told (sym o.after) ∙ objective r o.name
    by (inr o) = ap told (sym o.after) ∙ row r o.kind o.name

pub columns_followed : IsFollowed columns_told column_adds (codes "COLUMNS")
columns_followed = record {
  heading = (λ r stage. refl);
  rows = (λ r fields s sound at h. columns_by_rows columns_told (λ r name. refl) (λ r kind name. refl) r fields s h);
  columns = (λ r fields s sound h. column_added r fields s h);
  rights = (λ r fields s sound h. let v = rights_taken r fields s h in ap columns_told (sym v.after));
  bounds = (λ r fields s sound h.
      let v = bound_taken r fields s h in
      ap columns_told (sym v.after) ∙ same_changed (λ (c : ReadColumn). c.name) (with_bound v.kind v.number) v.place r.columns v.changed (λ c d gives. name_by_bound v.kind v.number c d gives) v.change);
}

names_append : (names xs ys : List (List ℕ)) → with_names names (xs ++ ys) ≡ with_names (with_names names xs) ys
names_append names [] ys = refl
names_append names (x ∷ xs) ys = names_append (with_name names x) xs ys

abbrev pub value_lines : List (List (List ℕ)) → List (List (List ℕ))
value_lines lines = filter (λ fields. not (is_mark fields)) lines

names_all : (names : List (List ℕ)) (lines : List (List (List ℕ))) → added column_adds names lines ≡ with_names names (map (λ (cell : Cell). cell.column) (flat_map cells_of (value_lines lines)))
names_all names [] = refl
names_all names (fields ∷ lines) = by (is_mark fields) (names_all names lines) (names_all (with_names names (columns_in fields)) lines)
  where
    by : (b : Bool) → added column_adds names lines ≡ with_names names (map (λ (cell : Cell). cell.column) (flat_map cells_of (value_lines lines)))
        → added column_adds (with_names names (columns_in fields)) lines ≡ with_names (with_names names (columns_in fields)) (map (λ (cell : Cell). cell.column) (flat_map cells_of (value_lines lines)))
        → added column_adds (if b then names else with_names names (columns_in fields)) lines ≡ with_names names (map (λ (cell : Cell). cell.column) (flat_map cells_of (cond (not b) (fields ∷ value_lines lines) (value_lines lines))))
    by true same more = same
    by false same more =
        more ∙ (sym (names_append names (columns_in fields) (map (λ (cell : Cell). cell.column) (flat_map cells_of (value_lines lines))))
        ∙ ap (with_names names) (sym (map-append (λ (cell : Cell). cell.column) (cells_of fields) (flat_map cells_of (value_lines lines)))))

-- each name once

abbrev new_to : List (List ℕ) → List ℕ → Bool
new_to names name = not (list_any (bytes_eq name) names)

filter_both : (p q r : List ℕ → Bool) (xs : List (List ℕ)) → ((x : List ℕ) → r x ≡ (q x && p x)) → filter p (filter q xs) ≡ filter r xs
filter_both p q r [] h = refl
filter_both p q r (x ∷ xs) h = by (q x) (p x) refl refl (filter_both p q r xs h)
  where
    by : (a b : Bool) → q x ≡ a → p x ≡ b → filter p (filter q xs) ≡ filter r xs → filter p (cond a (x ∷ filter q xs) (filter q xs)) ≡ cond (r x) (x ∷ filter r xs) (filter r xs)
    by true true e f next =
        let t : r x ≡ true = h x ∙ (λ i. e i && f i) in
        ap (λ (b : Bool). cond b (x ∷ filter p (filter q xs)) (filter p (filter q xs))) f ∙ (ap (λ (z : List (List ℕ)). x ∷ z) next ∙ ap (λ (b : Bool). cond b (x ∷ filter r xs) (filter r xs)) (sym t))
    by true false e f next =
        let t : r x ≡ false = h x ∙ (λ i. e i && f i) in
        ap (λ (b : Bool). cond b (x ∷ filter p (filter q xs)) (filter p (filter q xs))) f ∙ (next ∙ ap (λ (b : Bool). cond b (x ∷ filter r xs) (filter r xs)) (sym t))
    by false b e f next =
        let t : r x ≡ false = h x ∙ (λ i. e i && f i) in
        next ∙ ap (λ (b : Bool). cond b (x ∷ filter r xs) (filter r xs)) (sym t)

any_more : (p : List ℕ → Bool) (xs : List (List ℕ)) (y : List ℕ) → list_any p (xs ++ y ∷ []) ≡ (list_any p xs || p y)
any_more p [] y = by (p y)
  where
    by : (b : Bool) → (b || false) ≡ b
    by true = refl
    by false = refl
any_more p (x ∷ xs) y = by (p x) (any_more p xs y)
  where
    by : (b : Bool) → list_any p (xs ++ y ∷ []) ≡ (list_any p xs || p y) → (b || list_any p (xs ++ y ∷ [])) ≡ ((b || list_any p xs) || p y)
    by true h = refl
    by false h = h

not_or : (a b : Bool) → not (a || b) ≡ (not b && not a)
not_or true true = refl
not_or true false = refl
not_or false true = refl
not_or false false = refl

absorbs : (a b : Bool) → (b ≡ true → a ≡ true) → not a ≡ (not b && not a)
absorbs true true h = refl
absorbs true false h = refl
absorbs false true h = absurd (cc (h refl))
absorbs false false h = refl

once_all : (names more : List (List ℕ)) → with_names names more ≡ names ++ filter (new_to names) (each_once more)
once_all names [] = sym (append-nil names)
once_all names (x ∷ more) = by (list_any (bytes_eq x) names) refl (once_all names more) (once_all (names ++ x ∷ []) more)
  where
    rest : List (List ℕ)
    rest = each_once more

    by : (b : Bool) → list_any (bytes_eq x) names ≡ b → with_names names more ≡ names ++ filter (new_to names) rest → with_names (names ++ x ∷ []) more ≡ (names ++ x ∷ []) ++ filter (new_to (names ++ x ∷ [])) rest
        → with_names (if b then names else names ++ x ∷ []) more ≡ names ++ cond (not b) (x ∷ filter (new_to names) (filter (λ other. not (bytes_eq other x)) rest)) (filter (new_to names) (filter (λ other. not (bytes_eq other x)) rest))
    by true e same more_ =
        let gone = filter_both (new_to names) (λ other. not (bytes_eq other x)) (new_to names) rest (λ y. absorbs (list_any (bytes_eq y) names) (bytes_eq y x) (λ t. ap (λ (z : List ℕ). list_any (bytes_eq z) names) (same_bytes y x t) ∙ e)) in
        same ∙ ap (λ (z : List (List ℕ)). names ++ z) (sym gone)
    by false e same more_ =
        let both = filter_both (new_to names) (λ other. not (bytes_eq other x)) (new_to (names ++ x ∷ [])) rest (λ y. ap not (any_more (bytes_eq y) names x) ∙ not_or (list_any (bytes_eq y) names) (bytes_eq y x)) in
        more_ ∙ (append_assoc names (x ∷ []) (filter (new_to (names ++ x ∷ [])) rest) ∙ ap (λ (z : List (List ℕ)). names ++ x ∷ z) (sym both))

filter_all : (xs : List (List ℕ)) → filter (new_to []) xs ≡ xs
filter_all [] = refl
filter_all (x ∷ xs) = ap (λ (z : List (List ℕ)). x ∷ z) (filter_all xs)

pub columns_all : (lines : List (List (List ℕ))) → added column_adds [] lines ≡ each_once (map (λ (cell : Cell). cell.column) (flat_map cells_of (value_lines lines)))
columns_all lines =
    let names = map (λ (cell : Cell). cell.column) (flat_map cells_of (value_lines lines)) in
    names_all [] lines ∙ (once_all [] names ∙ filter_all (each_once names))
