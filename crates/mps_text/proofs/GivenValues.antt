-- The values of columns that a text gives.
use Rattle.std.proofs.Common.{suc, zero, ◌≡◌, ◌≢◌, ℕ, ◌-◌, Bool, true, false, List, [], ◌∷◌, ◌++◌, length, get_or, Option, Some, None, Ok, ℤ, inl, inr, refl, sym, ap, ◌∙◌, subst, arith, length-append, cond}
use Rattle.std.specs.Prelude.{◌&&◌, ◌||◌, ◌==◌, not, is_some, codes, bytes_eq, map, flat_map, option_and_then, option_to_list, if◌then◌else◌, ◌⊎◌}
use Rattle.std.specs.Option.{option_or}
use Rattle.std.proofs.lemmas.Bool.Decides.{nat_tests}
use Rattle.std.proofs.lemmas.List.{map-append, length-map}
use Rattle.std.proofs.lemmas.List.Quantifiers.{position-Some}
use Rattle.flow_model.specs.declared.programs.Entry.{Entry}
use Rattle.flow_model.specs.Programs.{AreDistinct}
use Rattle.mps_text.specs.declared.stages.Stage.TheVariants.{Rows}
use Rattle.mps_text.specs.declared.stages.BoundKind.{BoundKind}
use Rattle.mps_text.specs.declared.stages.BoundKind.TheVariants.{Upper, Lower, Fixed}
use Rattle.mps_text.specs.declared.parts.ReadColumn.{ReadColumn}
use Rattle.mps_text.specs.Meaning.{Reading, column_names, place_of, target_in, has_entry, new_column, with_value, with_values, rows_line, columns_line, value_in, each_in, with_bound}
use Rattle.mps_text.specs.Given.{Cell, cells_of, is_mark, first_given, cell_at}
use Rattle.mps_text.proofs.NamePlaces.{same, seam}
use Rattle.mps_text.proofs.Steps.{same_bytes, columns_taken, cells_for, IsMarkLine, AreValues}
use Rattle.mps_text.proofs.SideSteps.{rights_taken, bound_taken, changed_there}
use Rattle.mps_text.proofs.SoundParts.{IsSound, is_behind_rows, names_in, name_by_values, same_changed, values_small, each_some, list_is, bound_by}
use Rattle.mps_text.proofs.SoundLines.{sides_sound, opened_apart}
use Rattle.mps_text.proofs.Follow.{added, IsFollowed}
use Rattle.mps_text.proofs.GivenColumns.{given_append, or_none, last_opened, columns_by_rows, value_lines}
use Rattle.mps_text.proofs.NamedParts.{given_same, named, named_more, or_all, or_assoc}

-- Values of columns.

abbrev pub entry_at : ℕ → Entry → Option ℤ
entry_at row e = if e.row == row then Some e.value else None

abbrev pub value_of_column : ℕ → ReadColumn → Option ℤ
value_of_column zero c = c.cost
value_of_column (suc row) c = first_given (entry_at (suc row)) c.entries

abbrev pub column_cell : List ℕ → ℕ → ReadColumn → Option ℤ
column_cell column target c = named (λ (c : ReadColumn). c.name) (value_of_column target) column c

abbrev pub cell_told : List ℕ → List ℕ → Reading → Option ℤ
cell_told column row r = option_and_then (λ target. first_given (column_cell column target) r.columns) (target_in r row)

abbrev pub cell_gives : List ℕ → List ℕ → List (List ℕ) → Option ℤ
cell_gives column row fields = if is_mark fields then None else first_given (cell_at column row) (cells_of fields)

abbrev pub cell_adds : List ℕ → List ℕ → Option ℤ → List (List ℕ) → Option ℤ
cell_adds column row o fields = option_or o (cell_gives column row fields)

zero_suc : (k : ℕ) → (zero == suc k) ≡ false
zero_suc k = grind (arith, nat_tests)

suc_zero : (k : ℕ) → (suc k == zero) ≡ false
suc_zero k = grind (arith, nat_tests)

pub no_some : {A : Type 0} (o : Option A) → is_some o ≡ false → o ≡ None
no_some None h = refl
no_some (Some x) h = absurd (cc)

-- one more value
one_value : (t u : ℕ) (v : ℤ) (c d : ReadColumn) → with_value u v c ≡ Some d → value_of_column t d ≡ option_or (value_of_column t c) (if u == t then Some v else None)
one_value t zero v c d gives = by (is_some c.cost) refl gives t
  where
    by : (b : Bool) → is_some c.cost ≡ b → (if b then None else Some (record c { cost = Some v })) ≡ Some d → (t : ℕ) → value_of_column t d ≡ option_or (value_of_column t c) (if zero == t then Some v else None)
    by true e gives t = absurd (cc)
    by false e gives zero =
        let is : record c { cost = Some v } ≡ d = cc in
        ap (λ (z : ReadColumn). z.cost) (sym is) ∙ ap (λ (o : Option ℤ). option_or o (Some v)) (sym (no_some c.cost e))
    by false e gives (suc k) =
        let is : record c { cost = Some v } ≡ d = cc in
        ap (value_of_column (suc k)) (sym is) ∙ (sym (or_none (value_of_column (suc k) c)) ∙ ap (λ (b : Bool). option_or (value_of_column (suc k) c) (if b then Some v else None)) (sym (zero_suc k)))
one_value t (suc row) v c d gives = by (has_entry (suc row) c) gives t
  where
    e : Entry
    e = record { row = suc row; value = v }

    by : (b : Bool) → (if b then None else Some (record c { entries = c.entries ++ record { row = suc row; value = v } ∷ [] })) ≡ Some d → (t : ℕ) → value_of_column t d ≡ option_or (value_of_column t c) (if suc row == t then Some v else None)
    by true gives t = absurd (cc)
    by false gives zero =
        let is : record c { entries = c.entries ++ record { row = suc row; value = v } ∷ [] } ≡ d = cc in
        ap (value_of_column zero) (sym is) ∙ (sym (or_none c.cost) ∙ ap (λ (b : Bool). option_or c.cost (if b then Some v else None)) (sym (suc_zero row)))
    by false gives (suc k) =
        let is : record c { entries = c.entries ++ record { row = suc row; value = v } ∷ [] } ≡ d = cc in
        ap (value_of_column (suc k)) (sym is) ∙ (given_append (entry_at (suc k)) c.entries (record { row = suc row; value = v } ∷ []) ∙ ap (option_or (value_of_column (suc k) c)) (or_none (if suc row == suc k then Some v else None)))

-- two names of the same list are the same where their places are
names_match : (names : List (List ℕ)) (a b : List ℕ) (i j : ℕ) → place_of a names ≡ Some i → place_of b names ≡ Some j → bytes_eq a b ≡ (i == j)
names_match names a b i j p q = by (bytes_eq a b) refl
  where
    equal : (i j : ℕ) → i ≡ j → (i == j) ≡ true
    equal i j h = grind (arith, nat_tests)

    unequal : (i j : ℕ) → i ≢ j → (i == j) ≡ false
    unequal i j h = grind (arith, nat_tests)

    by : (x : Bool) → bytes_eq a b ≡ x → x ≡ (i == j)
    by true e =
        let is = same_bytes a b e in
        let s : Some i ≡ Some j = sym p ∙ (ap (λ (z : List ℕ). place_of z names) is ∙ q) in
        let at : i ≡ j = cc in
        sym (equal i j at)
    by false e =
        let first = position-Some (bytes_eq a) names i [] p in
        let second = position-Some (bytes_eq b) names j [] q in
        sym (unequal i j (λ at.
        let is : a ≡ b = same_bytes a (get_or names i []) first.1 ∙ (ap (λ (n : ℕ). get_or names n []) at ∙ sym (same_bytes b (get_or names j []) second.1)) in
        let t : bytes_eq a b ≡ true = ap (bytes_eq a) (sym is) ∙ same a in
        absurd (cc)))

cell_is : (name row b w : List ℕ) (v : ℤ) (x : Bool) → bytes_eq b row ≡ x → value_in w ≡ Some v → cell_at name row (record { column = name; row = b; value = w }) ≡ (if x then Some v else None)
cell_is name row b w v x e value =
    ap (λ (y : Bool). if y && bytes_eq b row then value_in w else None) (same name) ∙ (ap (λ (y : Bool). if y then value_in w else None) e ∙ ap (λ (o : Option ℤ). if x then o else None) value)

all_values : (r : Reading) (row : List ℕ) (t : ℕ) → target_in r row ≡ Some t → (name : List ℕ) (rows values : List (List ℕ)) (targets : List ℕ) (numbers : List ℤ) (c d : ReadColumn)
    → each_in (target_in r) rows ≡ Some targets → each_in value_in values ≡ Some numbers → with_values targets numbers c ≡ Some d
    → value_of_column t d ≡ option_or (value_of_column t c) (first_given (cell_at name row) (cells_for name rows values))
all_values r row t at name [] values targets numbers c d ts vs gives =
    let none = list_is targets ts in
    let g : with_values [] numbers c ≡ Some d = subst (λ (z : List ℕ). with_values z numbers c ≡ Some d) none gives in
    let is : c ≡ d = cc in
    ap (value_of_column t) (sym is) ∙ sym (or_none (value_of_column t c))
all_values r row t at name (b ∷ rows) [] targets numbers c d ts vs gives =
    let s = each_some (target_in r) b rows targets ts in
    let none = list_is numbers vs in
    let g : with_values (s.first ∷ s.rest) [] c ≡ Some d = (subst (λ (z : List ℤ). with_values (s.first ∷ s.rest) z c ≡ Some d) none (subst (λ (z : List ℕ). with_values z numbers c ≡ Some d) s.all gives)) in
    let is : c ≡ d = cc in
    ap (value_of_column t) (sym is) ∙ sym (or_none (value_of_column t c))
all_values r row t at name (b ∷ rows) (w ∷ values) targets numbers c d ts vs gives =
    let s = each_some (target_in r) b rows targets ts in
    let n = each_some value_in w values numbers vs in
    let g = subst (λ (z : List ℤ). with_values (s.first ∷ s.rest) z c ≡ Some d) n.all (subst (λ (z : List ℕ). with_values z numbers c ≡ Some d) s.all gives) in
    by s.first n.first s.rest n.rest s.is n.is (with_value s.first n.first c) refl g (λ x h. all_values r row t at name rows values s.rest n.rest x d s.others n.others h)
  where
    rest : Option ℤ
    rest = first_given (cell_at name row) (cells_for name rows values)

    by : (u : ℕ) (v : ℤ) (us : List ℕ) (ws : List ℤ) → target_in r b ≡ Some u → value_in w ≡ Some v → (o : Option ReadColumn) → with_value u v c ≡ o → option_and_then (with_values us ws) o ≡ Some d
        → ((x : ReadColumn) → with_values us ws x ≡ Some d → value_of_column t d ≡ option_or (value_of_column t x) (first_given (cell_at name row) (cells_for name rows values)))
        → value_of_column t d ≡ option_or (value_of_column t c) (option_or (cell_at name row (record { column = name; row = b; value = w })) (first_given (cell_at name row) (cells_for name rows values)))
    by u v us ws target value None e g next = absurd (cc)
    by u v us ws target value (Some x) e g next =
        let one = one_value t u v c x e in
        let cell = cell_is name row b w v (u == t) (names_match (names_in r) b row u t target at) value in
        next x g ∙ (ap (λ (o : Option ℤ). option_or o (first_given (cell_at name row) (cells_for name rows values))) (one ∙ ap (option_or (value_of_column t c)) (sym cell))
        ∙ or_assoc (value_of_column t c) (cell_at name row (record { column = name; row = b; value = w })) (first_given (cell_at name row) (cells_for name rows values)))

-- cells of another column, and of rows that are others
other_column : (name column row : List ℕ) (rows values : List (List ℕ)) → bytes_eq name column ≡ false → first_given (cell_at column row) (cells_for name rows values) ≡ None
other_column name column row [] values h = refl
other_column name column row (b ∷ rows) [] h = refl
other_column name column row (b ∷ rows) (w ∷ values) h =
    ap (λ (x : Bool). option_or (if x && bytes_eq b row then value_in w else None) (first_given (cell_at column row) (cells_for name rows values))) h ∙ other_column name column row rows values h

and_false : (a : Bool) → (a && false) ≡ false
and_false true = refl
and_false false = refl

no_row : (r : Reading) (name column row : List ℕ) (rows values : List (List ℕ)) (targets : List ℕ) → target_in r row ≡ None → each_in (target_in r) rows ≡ Some targets → first_given (cell_at column row) (cells_for name rows values) ≡ None
no_row r name column row [] values targets none h = refl
no_row r name column row (b ∷ rows) [] targets none h = refl
no_row r name column row (b ∷ rows) (w ∷ values) targets none h =
    let s = each_some (target_in r) b rows targets h in
    by (bytes_eq b row) refl s.first s.is (no_row r name column row rows values s.rest none s.others)
  where
    by : (x : Bool) → bytes_eq b row ≡ x → (u : ℕ) → target_in r b ≡ Some u → first_given (cell_at column row) (cells_for name rows values) ≡ None → option_or (if bytes_eq name column && bytes_eq b row then value_in w else None) (first_given (cell_at column row) (cells_for name rows values)) ≡ None
    by true e u at next = let f : None ≡ Some u = sym none ∙ (ap (target_in r) (sym (same_bytes b row e)) ∙ at) in absurd (cc)
    by false e u at next = ap (λ (x : Bool). option_or (if bytes_eq name column && x then value_in w else None) (first_given (cell_at column row) (cells_for name rows values))) e ∙ (ap (λ (x : Bool). option_or (if x then value_in w else None) (first_given (cell_at column row) (cells_for name rows values))) (and_false (bytes_eq name column)) ∙ next)

none_behind : {A : Type 0} (before : List A) (old : A) (behind opened : List A) → opened ≡ before ++ old ∷ behind → length before ≡ length opened - 1 → behind ≡ []
none_behind before old [] opened is at = refl
none_behind before old (x ∷ behind) opened is at =
    let n = length-append before (old ∷ x ∷ behind) in
    let m : length opened ≡ length (before ++ old ∷ x ∷ behind) = ap length is in
    absurd (omega arith)

pub values_added : (column row : List ℕ) (r : Reading) (fields : List (List ℕ)) (s : Reading) → IsSound r → (v : AreValues r fields s) → cell_told column row (record r { columns = v.changed }) ≡ option_or (cell_told column row r) (first_given (cell_at column row) (cells_for v.name v.rows v.values))
values_added column row r fields s sound v = by (target_in r row) refl
  where
    none_at : (t : ℕ) → value_of_column t (new_column v.name) ≡ None
    none_at zero = refl
    none_at (suc k) = refl

    none_of : (b : Bool) (t : ℕ) → value_of_column t (new_column v.name) ≡ None → (if b then value_of_column t (new_column v.name) else None) ≡ None
    none_of true t h = h
    none_of false t h = refl

    fresh : (t : ℕ) → column_cell column t (new_column v.name) ≡ None
    fresh t = none_of (bytes_eq v.name column) t (none_at t)

    by : (o : Option ℕ) → target_in r row ≡ o → option_and_then (λ target. first_given (column_cell column target) v.changed) o ≡ option_or (option_and_then (λ target. first_given (column_cell column target) r.columns) o) (first_given (cell_at column row) (cells_for v.name v.rows v.values))
    by None none = sym (no_row r v.name column row v.rows v.values v.targets none v.targets_are)
    by (Some t) at =
        let last = last_opened (column_cell column t) v.name r.columns v.columns v.with in
        let c = changed_there (with_values v.targets v.numbers) (length v.columns - 1) v.columns v.changed v.change in
        let more = first_given (cell_at column row) (cells_for v.name v.rows v.values) in
        let names = map-append (λ (x : ReadColumn). x.name) c.before (c.old ∷ c.behind) in
        let size : length (map (λ (x : ReadColumn). x.name) c.before) ≡ length v.columns - 1 = length-map c.before (λ (x : ReadColumn). x.name) ∙ c.place in
        let old_name : c.old.name ≡ v.name =
        sym (seam (map (λ (x : ReadColumn). x.name) c.before) c.old.name (map (λ (x : ReadColumn). x.name) c.behind) [])
        ∙ (ap (λ (n : ℕ). get_or (map (λ (x : ReadColumn). x.name) c.before ++ c.old.name ∷ map (λ (x : ReadColumn). x.name) c.behind) n []) size
        ∙ (ap (λ (z : List (List ℕ)). get_or z (length v.columns - 1) []) (sym names ∙ ap column_names (sym c.was)) ∙ last.last)) in
        let behind = none_behind c.before c.old c.behind v.columns c.was c.place in
        let kept = name_by_values v.targets v.numbers c.old c.new c.by in
        let value = all_values r row t at v.name v.rows v.values v.targets v.numbers c.old c.new v.targets_are v.numbers_are c.by in
        let apart : AreDistinct (map (λ (x : ReadColumn). x.name) (c.before ++ c.old ∷ c.behind)) = subst (λ (z : List ReadColumn). AreDistinct (column_names z)) c.was (opened_apart (length r.rows) v.name r.columns v.columns sound.columns sound.columns_apart v.with) in
        let step = named_more (λ (x : ReadColumn). x.name) (value_of_column t) column c.before c.old c.new c.behind more apart kept
        (λ is. value ∙ ap (λ (z : List ℕ). option_or (value_of_column t c.old) (first_given (cell_at z row) (cells_for v.name v.rows v.values))) (sym old_name ∙ is)) (λ e. other_column v.name column row v.rows v.values (ap (λ (z : List ℕ). bytes_eq z column) (sym old_name) ∙ e)) in
        ap (first_given (column_cell column t)) c.is ∙ (step ∙ ap (λ (o : Option ℤ). option_or o more) (ap (first_given (column_cell column t)) (sym c.was) ∙ last.given (fresh t)))

-- lines of marks and of values
cells_added : (column row : List ℕ) (r : Reading) (fields : List (List ℕ)) (s : Reading) → IsSound r → columns_line r fields ≡ Ok s → cell_told column row s ≡ cell_adds column row (cell_told column row r) fields
cells_added column row r fields s sound h = by (columns_taken r fields s h)
  where
    by : IsMarkLine r fields s ⊎ AreValues r fields s → cell_told column row s ≡ cell_adds column row (cell_told column row r) fields
    by (inl o) =
        ap (cell_told column row) (sym o.after) ∙ (sym (or_none (cell_told column row r))
        ∙ ap (λ (b : Bool). option_or (cell_told column row r) (if b then None else first_given (cell_at column row) (cells_of fields))) (sym o.marked))
    by (inr v) =
        ap (cell_told column row) (sym v.after) ∙ (values_added column row r fields s sound v
        ∙ (ap (λ (z : List Cell). option_or (cell_told column row r) (first_given (cell_at column row) z)) (sym v.cells)
        ∙ ap (λ (b : Bool). option_or (cell_told column row r) (if b then None else first_given (cell_at column row) (cells_of fields))) (sym v.unmarked)))

none_there : (o : Option ℕ) (f : ℕ → ReadColumn → Option ℤ) (columns : List ReadColumn) → columns ≡ [] → option_and_then (λ t. first_given (f t) columns) o ≡ None
none_there None f columns h = refl
none_there (Some t) f columns h = ap (first_given (f t)) h

before_columns : (column row : List ℕ) (r : Reading) (fields : List (List ℕ)) (s : Reading) → IsSound r → r.stage ≡ Rows → rows_line r fields ≡ Ok s → cell_told column row s ≡ cell_told column row r
before_columns column row r fields s sound at h =
    let none = sound.none (ap is_behind_rows at) in
    let kept = columns_by_rows (λ (z : Reading). z.columns) (λ r name. refl) (λ r kind name. refl) r fields s h in
    none_there (target_in s row) (column_cell column) s.columns (kept ∙ none) ∙ sym (none_there (target_in r row) (column_cell column) r.columns none)

-- bounds change no value
bound_leaves : (column : List ℕ) (t : ℕ) (k : BoundKind) (value : ℕ) (c d : ReadColumn) → with_bound k value c ≡ Some d → column_cell column t d ≡ column_cell column t c
bound_leaves column t k value c d h = by k h t
  where
    by : (k : BoundKind) → with_bound k value c ≡ Some d → (t : ℕ) → column_cell column t d ≡ column_cell column t c
    by Upper h zero = ap (column_cell column zero) (sym (bound_by (is_some c.upper || is_some c.fixed) (record c { upper = Some value }) d h))
    by Upper h (suc k) = ap (column_cell column (suc k)) (sym (bound_by (is_some c.upper || is_some c.fixed) (record c { upper = Some value }) d h))
    by Lower h zero = ap (column_cell column zero) (sym (bound_by (is_some c.lower || is_some c.fixed) (record c { lower = Some value }) d h))
    by Lower h (suc k) = ap (column_cell column (suc k)) (sym (bound_by (is_some c.lower || is_some c.fixed) (record c { lower = Some value }) d h))
    by Fixed h zero = ap (column_cell column zero) (sym (bound_by ((is_some c.lower || is_some c.upper) || is_some c.fixed) (record c { fixed = Some value }) d h))
    by Fixed h (suc k) = ap (column_cell column (suc k)) (sym (bound_by ((is_some c.lower || is_some c.upper) || is_some c.fixed) (record c { fixed = Some value }) d h))

pub cells_followed : (column row : List ℕ) → IsFollowed (cell_told column row) (cell_adds column row) (codes "COLUMNS")
cells_followed column row = record {
  heading = (λ r stage. refl);
  rows = (λ r fields s sound at h. before_columns column row r fields s sound at h);
  columns = (λ r fields s sound h. cells_added column row r fields s sound h);
  rights = (λ r fields s sound h.
      let v = rights_taken r fields s h in
      let sided = sides_sound v.places v.numbers r.rows v.changed (values_small v.values v.numbers v.numbers_are) v.change in
      ap (cell_told column row) (sym v.after) ∙ ap (λ (z : List (List ℕ)). option_and_then (λ t. first_given (column_cell column t) r.columns) (place_of row (option_to_list r.objective ++ z))) sided.same.names);
  bounds = (λ r fields s sound h.
      let v = bound_taken r fields s h in
      ap (cell_told column row) (sym v.after)
      ∙ ap (λ (f : ℕ → Option ℤ). option_and_then f (target_in r row)) (λ i t. given_same (column_cell column t) r.columns v.changed (same_changed (column_cell column t) (with_bound v.kind v.number) v.place r.columns v.changed (λ c d gives. bound_leaves column t v.kind v.number c d gives) v.change) i));
}

marks_give_nothing : (column row : List ℕ) (lines : List (List (List ℕ))) → first_given (cell_gives column row) lines ≡ first_given (cell_at column row) (flat_map cells_of (value_lines lines))
marks_give_nothing column row [] = refl
marks_give_nothing column row (fields ∷ lines) = by (is_mark fields) (marks_give_nothing column row lines)
  where
    by : (b : Bool) → first_given (cell_gives column row) lines ≡ first_given (cell_at column row) (flat_map cells_of (value_lines lines))
        → option_or (if b then None else first_given (cell_at column row) (cells_of fields)) (first_given (cell_gives column row) lines) ≡ first_given (cell_at column row) (flat_map cells_of (cond (not b) (fields ∷ value_lines lines) (value_lines lines)))
    by true next = next
    by false next = ap (option_or (first_given (cell_at column row) (cells_of fields))) next ∙ sym (given_append (cell_at column row) (cells_of fields) (flat_map cells_of (value_lines lines)))

pub cells_all : (column row : List ℕ) (lines : List (List (List ℕ))) → added (cell_adds column row) None lines ≡ first_given (cell_at column row) (flat_map cells_of (value_lines lines))
cells_all column row lines = or_all (cell_gives column row) None lines ∙ marks_give_nothing column row lines
