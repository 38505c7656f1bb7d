-- A program that a text means has what the lines of the text name and give.
use Rattle.std.proofs.Common.{suc, zero, ◌≡◌, ◌≢◌, ℕ, ◌<◌, Bool, true, false, List, [], ◌∷◌, ◌++◌, length, get_or, Option, Some, None, Ok, ℤ, pos, negsuc, refl, sym, ap, ◌∙◌, subst, arith, cond}
use Rattle.std.proofs.lemmas.Int.{ints}
use Rattle.std.specs.Prelude.{◌||◌, ◌==◌, ◌+ℤ◌, not, nat_le, is_some, codes, bytes_eq, map, slice_get, unwrap_or, option_and_then, if◌then◌else◌}
use Rattle.std.specs.List.{list_all, AllByRecursion}
use Rattle.std.specs.Option.{option_or}
use Rattle.std.proofs.lemmas.Bool.Decides.{nat_tests}
use Rattle.std.proofs.lemmas.List.{length-map}
use Rattle.std.proofs.lemmas.List.Elements.{All-from_recursion}
use Rattle.flow_model.specs.declared.programs.Row.{Row}
use Rattle.flow_model.specs.declared.programs.Entry.{Entry}
use Rattle.flow_model.specs.Programs.{AreDistinct, entry_in}
use Rattle.mps_text.specs.declared.stages.BoundKind.{BoundKind}
use Rattle.mps_text.specs.declared.stages.BoundKind.TheVariants.{Upper, Lower, Fixed}
use Rattle.mps_text.specs.declared.parts.ReadRow.{ReadRow}
use Rattle.mps_text.specs.declared.parts.ReadColumn.{ReadColumn}
use Rattle.text_lines.specs.Lines.{lines_of}
use Rattle.mps_text.specs.Written.{is_zero, kind_letter}
use Rattle.mps_text.specs.Meaning.{Reading, first_reading, row_names, place_of, target_in, is_ended, is_below, is_bounded, put_entry, in_row_order, row_of, column_of, program_of, lines_read}
use Rattle.mps_text.specs.Given.{section, first_given, value_given, right_given, bound_given, HasBoundsOf, IsProgramOf}
use Rattle.mps_text.specs.Laws.{MeaningsAreGiven}
use Rattle.mps_text.proofs.NamePlaces.{same, place_at}
use Rattle.mps_text.proofs.WrittenNumbers.{both}
use Rattle.mps_text.proofs.Steps.{same_bytes}
use Rattle.mps_text.proofs.SideSteps.{bound_word}
use Rattle.mps_text.proofs.SoundParts.{IsSound, Apart, IsSoundColumn, names_in, all_on}
use Rattle.mps_text.proofs.Sound.{first_sound}
use Rattle.mps_text.proofs.Lawful.{text_read, objective_is, column_names_are, behind_rows, filled}
use Rattle.mps_text.proofs.Follow.{follow}
use Rattle.mps_text.proofs.GivenRows.{rows_told, row_adds, row_fields, rows_followed, rows_all, objective_told, objective_adds, objective_followed, objective_all}
use Rattle.mps_text.proofs.GivenColumns.{or_none, columns_told, column_adds, columns_followed, columns_all}
use Rattle.mps_text.proofs.NamedParts.{named, none_named, apart_behind, apart_tail}
use Rattle.mps_text.proofs.GivenValues.{entry_at, value_of_column, column_cell, cell_told, cell_adds, cells_followed, cells_all}
use Rattle.mps_text.proofs.GivenSides.{right_in, right_told, right_adds, rights_followed, rights_all, bound_of, bound_in_column, bound_told, bound_adds, bounds_followed, bounds_all, behind_objective}

-- Elements by their names.

unlike : (x y : List ℕ) → x ≢ y → bytes_eq x y ≡ false
unlike x y h = by (bytes_eq x y) refl
  where
    by : (b : Bool) → bytes_eq x y ≡ b → b ≡ false
    by true e = absurd (h (same_bytes x y e))
    by false e = refl

add_front : {A B : Type 0} (name : A → List ℕ) (give : A → Option B) (x : A) (all ys : List A) → AllByRecursion (λ z. name x ≢ z) (map name ys) → AllByRecursion (λ y. first_given (named name give (name y)) all ≡ give y) ys
    → AllByRecursion (λ y. first_given (named name give (name y)) (x ∷ all) ≡ give y) ys
add_front name give x all [] other h = tt
add_front {A} {B} name give x all (y ∷ ys) other h =
    (ap (λ (b : Bool). option_or (if b then give x else None) (first_given (named name give (name y)) all)) (unlike (name x) (name y) other.0) ∙ h.0, add_front name give x all ys other.1 h.1)

-- each element gives what the first of its name gives
each_found : {A B : Type 0} (name : A → List ℕ) (give : A → Option B) (xs : List A) → AreDistinct (map name xs) → AllByRecursion (λ x. first_given (named name give (name x)) xs ≡ give x) xs
each_found name give [] apart = tt
each_found {A} {B} name give (x ∷ xs) apart =
    let others = apart_behind [] (name x) (map name xs) apart in
    let here : first_given (named name give (name x)) (x ∷ xs) ≡ give x =
    ap (λ (b : Bool). option_or (if b then give x else None) (first_given (named name give (name x)) xs)) (same (name x))
    ∙ (ap (option_or (give x)) (none_named name give (name x) xs others) ∙ or_none (give x)) in
    (here, add_front name give x xs xs others (each_found name give xs (apart_tail (name x) (map name xs) apart)))

all_map : {A B : Type 0} (P : B → Type 0) (f : A → B) (xs : List A) → AllByRecursion (λ x. P (f x)) xs → AllByRecursion P (map f xs)
all_map P f [] h = tt
all_map P f (x ∷ xs) h = (h.0, all_map P f xs h.1)

-- Entries of a row.

swap_sums : (a b c : ℤ) → (a +ℤ (b +ℤ c)) ≡ (b +ℤ (a +ℤ c))
swap_sums a b c = omega (arith, ints)

zero_sum : (a : ℤ) → (pos 0 +ℤ a) ≡ a
zero_sum a = omega (arith, ints)

sum_zero : (a : ℤ) → (a +ℤ pos 0) ≡ a
sum_zero a = omega (arith, ints)

put_sum : (j : ℕ) (e : Entry) (xs : List Entry) → entry_in j (put_entry e xs) ≡ entry_in j (e ∷ xs)
put_sum j e [] = refl
put_sum j e (x ∷ xs) = by (nat_le e.row x.row) (put_sum j e xs)
  where
    by : (b : Bool) → entry_in j (put_entry e xs) ≡ entry_in j (e ∷ xs) → entry_in j (if b then e ∷ x ∷ xs else x ∷ put_entry e xs) ≡ entry_in j (e ∷ x ∷ xs)
    by true next = refl
    by false next =
        ap (λ (z : ℤ). (if x.row == j then x.value else pos 0) +ℤ z) next ∙ swap_sums (if x.row == j then x.value else pos 0) (if e.row == j then e.value else pos 0) (entry_in j xs)

ordered_sum : (j : ℕ) (xs : List Entry) → entry_in j (in_row_order xs) ≡ entry_in j xs
ordered_sum j [] = refl
ordered_sum j (x ∷ xs) = put_sum j x (in_row_order xs) ∙ ap (λ (z : ℤ). (if x.row == j then x.value else pos 0) +ℤ z) (ordered_sum j xs)

zero_is : (z : ℤ) → not (is_zero z) ≡ false → z ≡ pos 0
zero_is (pos zero) h = refl
zero_is (pos (suc n)) h = absurd (grind (arith, nat_tests))
zero_is (negsuc n) h = absurd (grind (arith, nat_tests))

filled_sum : (j : ℕ) (xs : List Entry) → entry_in j (filled xs) ≡ entry_in j xs
filled_sum j [] = refl
filled_sum j (x ∷ xs) = by (not (is_zero x.value)) refl (filled_sum j xs)
  where
    none : (b : Bool) → x.value ≡ pos 0 → (if b then x.value else pos 0) ≡ pos 0
    none true h = h
    none false h = refl

    by : (b : Bool) → not (is_zero x.value) ≡ b → entry_in j (filled xs) ≡ entry_in j xs → entry_in j (cond b (x ∷ filled xs) (filled xs)) ≡ entry_in j (x ∷ xs)
    by true e next = ap (λ (z : ℤ). (if x.row == j then x.value else pos 0) +ℤ z) next
    by false e next = next ∙ (sym (zero_sum (entry_in j xs)) ∙ ap (λ (z : ℤ). z +ℤ entry_in j xs) (sym (none (x.row == j) (zero_is x.value e))))

no_entry : (j : ℕ) (xs : List Entry) → AllByRecursion (λ d. d.row ≢ j) xs → entry_in j xs ≡ pos 0
no_entry j [] h = refl
no_entry j (x ∷ xs) h =
    let other : x.row ≢ j = h.0 in
    let t : (x.row == j) ≡ false = grind (arith, nat_tests) in
    ap (λ (b : Bool). (if b then x.value else pos 0) +ℤ entry_in j xs) t ∙ (zero_sum (entry_in j xs) ∙ no_entry j xs h.1)

first_sum : (j : ℕ) (xs : List Entry) → Apart xs → entry_in j xs ≡ unwrap_or (first_given (entry_at j) xs) (pos 0)
first_sum j [] h = refl
first_sum j (x ∷ xs) h = by (x.row == j) refl (first_sum j xs h.1)
  where
    by : (b : Bool) → (x.row == j) ≡ b → entry_in j xs ≡ unwrap_or (first_given (entry_at j) xs) (pos 0) → ((if b then x.value else pos 0) +ℤ entry_in j xs) ≡ unwrap_or (option_or (if b then Some x.value else None) (first_given (entry_at j) xs)) (pos 0)
    by true e next =
        let is : x.row ≡ j = grind (arith, nat_tests) in
        let none = no_entry j xs (subst (λ (k : ℕ). AllByRecursion (λ d. d.row ≢ k) xs) is h.0) in
        ap (λ (z : ℤ). x.value +ℤ z) none ∙ sum_zero x.value
    by false e next = zero_sum (entry_in j xs) ∙ next

entries_are : (j : ℕ) (xs : List Entry) → Apart xs → entry_in j (in_row_order (filled xs)) ≡ unwrap_or (first_given (entry_at j) xs) (pos 0)
entries_are j xs h = ordered_sum j (filled xs) ∙ (filled_sum j xs ∙ first_sum j xs h)

-- Parts of a whole text.

rows_named : (rows : List ReadRow) → map (λ row. kind_letter row.kind ∷ row.name ∷ []) (map row_of rows) ≡ map row_fields rows
rows_named [] = refl
rows_named (row ∷ rows) = ap (λ (z : List (List (List ℕ))). (kind_letter row.kind ∷ row.name ∷ []) ∷ z) (rows_named rows)

values_are : (text : List ℕ) (r : Reading) → lines_read 1 first_reading (lines_of text) ≡ Ok r → (column row : List ℕ) → cell_told column row r ≡ value_given text column row
values_are text r read column row =
    follow (cell_told column row) (cell_adds column row) (codes "COLUMNS") (cells_followed column row) 1 first_reading (lines_of text) r first_sound read
    ∙ cells_all column row (section (codes "COLUMNS") text)

rights_are : (text : List ℕ) (r : Reading) → lines_read 1 first_reading (lines_of text) ≡ Ok r → (row : List ℕ) → right_told row r ≡ right_given text row
rights_are text r read row =
    follow (right_told row) (right_adds row) (codes "RHS") (rights_followed row) 1 first_reading (lines_of text) r first_sound read ∙ rights_all row (section (codes "RHS") text)

bounds_are : (text : List ℕ) (r : Reading) → lines_read 1 first_reading (lines_of text) ≡ Ok r → (k : BoundKind) (column : List ℕ) → bound_told k column r ≡ bound_given text (bound_word k) column
bounds_are text r read k column =
    follow (bound_told k column) (bound_adds k column) (codes "BOUNDS") (bounds_followed k column) 1 first_reading (lines_of text) r first_sound read ∙ bounds_all k column (section (codes "BOUNDS") text)

row_there : (rows : List ReadRow) (k : ℕ) (row : Row) → slice_get (map row_of rows) k ≡ Some row → (k < length rows) × (get_or (row_names rows) k [] ≡ row.name)
row_there [] k row h = absurd (cc)
row_there (x ∷ rows) zero row h = let is : row_of x ≡ row = cc in (omega arith, ap (λ (z : Row). z.name) is)
row_there (x ∷ rows) (suc k) row h = let rest = row_there rows k row h in let lt = rest.0 in (omega arith, rest.1)

-- the bounds of one column
bounds_of : (text : List ℕ) (c : ReadColumn) → is_bounded c ≡ true → ((k : BoundKind) → bound_given text (bound_word k) c.name ≡ bound_of k c) → HasBoundsOf text (column_of c)
bounds_of text c bounded are = record {
  fixed = (λ value h. fix c.fixed value (sym (are Fixed) ∙ h));
  upper = (λ h. are Upper ∙ top c.fixed c.upper (sym (are Fixed) ∙ h) bounded);
  lower = (λ h. ap (λ (o : Option ℕ). unwrap_or o 0) (are Lower) ∙ low c.fixed (sym (are Fixed) ∙ h));
}
  where
    fix : (o : Option ℕ) (value : ℕ) → o ≡ Some value → (unwrap_or o (unwrap_or c.lower 0) ≡ value) × (unwrap_or o (unwrap_or c.upper 0) ≡ value)
    fix o value h = (ap (λ (z : Option ℕ). unwrap_or z (unwrap_or c.lower 0)) h, ap (λ (z : Option ℕ). unwrap_or z (unwrap_or c.upper 0)) h)

    top : (o upper : Option ℕ) → o ≡ None → (is_some o || is_below upper (unwrap_or c.lower 0)) ≡ true → upper ≡ Some (unwrap_or o (unwrap_or upper 0))
    top None None h b = absurd (cc)
    top None (Some n) h b = refl
    top (Some m) upper h b = absurd (cc)

    low : (o : Option ℕ) → o ≡ None → unwrap_or c.lower 0 ≡ unwrap_or o (unwrap_or c.lower 0)
    low o h = ap (λ (z : Option ℕ). unwrap_or z (unwrap_or c.lower 0)) (sym h)

-- facts of each element, joined
joined : {A : Type 0} (P Q R : A → Type 0) (xs : List A) → ((x : A) → P x → Q x → R x) → AllByRecursion P xs → AllByRecursion Q xs → AllByRecursion R xs
joined P Q R [] f a b = tt
joined P Q R (x ∷ xs) f a b = (f x a.0 b.0, joined P Q R xs f a.1 b.1)

bounded_each : (columns : List ReadColumn) → list_all is_bounded columns ≡ true → AllByRecursion (λ c. is_bounded c ≡ true) columns
bounded_each [] h = tt
bounded_each (c ∷ columns) h = let parts = both (is_bounded c) (list_all is_bounded columns) h in (parts.0, bounded_each columns parts.1)

bounds_each : (text : List ℕ) (r : Reading) → lines_read 1 first_reading (lines_of text) ≡ Ok r → IsSound r → is_ended r.stage ≡ true → AllByRecursion (HasBoundsOf text) (map column_of r.columns)
bounds_each text r read sound ended =
    let found = λ (k : BoundKind). each_found (λ (c : ReadColumn). c.name) (bound_of k) r.columns sound.columns_apart in
    let given = λ (k : BoundKind) (c : ReadColumn) (h : first_given (bound_in_column k c.name) r.columns ≡ bound_of k c). sym (bounds_are text r read k c.name) ∙ h in
    let bounded = bounded_each r.columns (sound.ended ended) in
    let two = joined (λ c. first_given (bound_in_column Upper c.name) r.columns ≡ bound_of Upper c) (λ c. first_given (bound_in_column Lower c.name) r.columns ≡ bound_of Lower c)
    (λ c. (bound_given text (bound_word Upper) c.name ≡ bound_of Upper c) × (bound_given text (bound_word Lower) c.name ≡ bound_of Lower c)) r.columns (λ c a b. (given Upper c a, given Lower c b)) (found Upper) (found Lower) in
    let three = joined (λ c. (bound_given text (bound_word Upper) c.name ≡ bound_of Upper c) × (bound_given text (bound_word Lower) c.name ≡ bound_of Lower c)) (λ c. first_given (bound_in_column Fixed c.name) r.columns ≡ bound_of Fixed c)
    (λ c. (k : BoundKind) → bound_given text (bound_word k) c.name ≡ bound_of k c) r.columns (λ c a b k. by_kind text c a.0 a.1 (given Fixed c b) k) two (found Fixed) in
    all_map (HasBoundsOf text) column_of r.columns (joined (λ c. is_bounded c ≡ true) (λ c. (k : BoundKind) → bound_given text (bound_word k) c.name ≡ bound_of k c) (λ c. HasBoundsOf text (column_of c)) r.columns (λ c a b. bounds_of text c a b) bounded three)
  where
    by_kind : (text : List ℕ) (c : ReadColumn) → bound_given text (bound_word Upper) c.name ≡ bound_of Upper c → bound_given text (bound_word Lower) c.name ≡ bound_of Lower c → bound_given text (bound_word Fixed) c.name ≡ bound_of Fixed c → (k : BoundKind) → bound_given text (bound_word k) c.name ≡ bound_of k c
    by_kind text c a b d Upper = a
    by_kind text c a b d Lower = b
    by_kind text c a b d Fixed = d

-- the value of each column in the row with this name
cell_each : (text : List ℕ) (r : Reading) → lines_read 1 first_reading (lines_of text) ≡ Ok r → IsSound r → (t : ℕ) (row : List ℕ) → target_in r row ≡ Some t → AllByRecursion (λ c. value_of_column t c ≡ value_given text c.name row) r.columns
cell_each text r read sound t row at =
    all_on (λ c. first_given (column_cell c.name t) r.columns ≡ value_of_column t c) (λ c. value_of_column t c ≡ value_given text c.name row) r.columns
    (λ c h. sym h ∙ (ap (λ (o : Option ℕ). option_and_then (λ target. first_given (column_cell c.name target) r.columns) o) (sym at) ∙ values_are text r read c.name row))
    (each_found (λ (c : ReadColumn). c.name) (value_of_column t) r.columns sound.columns_apart)

targets_are : (r : Reading) → IsSound r → is_ended r.stage ≡ true → (k : ℕ) → k < length (unwrap_or r.objective [] ∷ row_names r.rows) → target_in r (get_or (unwrap_or r.objective [] ∷ row_names r.rows) k []) ≡ Some k
targets_are r sound ended k lt =
    let names : names_in r ≡ unwrap_or r.objective [] ∷ row_names r.rows = ap (λ (z : List (List ℕ)). z ++ row_names r.rows) (objective_is r.objective (behind_rows r ended sound)) in
    ap (place_of (get_or (unwrap_or r.objective [] ∷ row_names r.rows) k [])) names ∙ place_at (unwrap_or r.objective [] ∷ row_names r.rows) k [] (subst AreDistinct names sound.apart) lt

entries_each : (text : List ℕ) (r : Reading) → lines_read 1 first_reading (lines_of text) ≡ Ok r → IsSound r → is_ended r.stage ≡ true → (k : ℕ) (row : Row) → slice_get (map row_of r.rows) k ≡ Some row
    → AllByRecursion (λ c. entry_in (suc k) c.entries ≡ unwrap_or (value_given text c.name row.name) (pos 0)) (map column_of r.columns)
entries_each text r read sound ended k row h =
    let there = row_there r.rows k row h in
    let size = length-map r.rows (λ (x : ReadRow). x.name) in
    let lt = there.0 in
    let target : target_in r row.name ≡ Some (suc k) = subst (λ (z : List ℕ). target_in r z ≡ Some (suc k)) there.1 (targets_are r sound ended (suc k) (omega arith)) in
    all_map (λ c. entry_in (suc k) c.entries ≡ unwrap_or (value_given text c.name row.name) (pos 0)) column_of r.columns
    (joined (IsSoundColumn (length r.rows)) (λ c. value_of_column (suc k) c ≡ value_given text c.name row.name) (λ c. entry_in (suc k) (in_row_order (filled c.entries)) ≡ unwrap_or (value_given text c.name row.name) (pos 0)) r.columns
    (λ c s v. entries_are (suc k) c.entries s.apart ∙ ap (λ (o : Option ℤ). unwrap_or o (pos 0)) v) sound.columns (cell_each text r read sound (suc k) row.name target))

given_by : (text : List ℕ) (r : Reading) → lines_read 1 first_reading (lines_of text) ≡ Ok r → IsSound r → is_ended r.stage ≡ true → IsProgramOf text (program_of r)
given_by text r read sound ended =
    let lines = lines_of text in
    let rows = follow rows_told row_adds (codes "ROWS") rows_followed 1 first_reading lines r first_sound read ∙ rows_all [] (section (codes "ROWS") text) in
    let objective = follow objective_told objective_adds (codes "ROWS") objective_followed 1 first_reading lines r first_sound read ∙ objective_all [] (section (codes "ROWS") text) in
    let columns = follow columns_told column_adds (codes "COLUMNS") columns_followed 1 first_reading lines r first_sound read ∙ columns_all (section (codes "COLUMNS") text) in
    let first = targets_are r sound ended 0 (omega arith) in
    record {
      objective = sym objective ∙ ap (λ (z : List (List ℕ)). map (λ name. codes "N" ∷ name ∷ []) z) (objective_is r.objective (behind_rows r ended sound));
      rows = sym rows ∙ sym (rows_named r.rows);
      columns = sym columns ∙ sym (column_names_are r.columns);
      costs = All-from_recursion (λ c. c.cost ≡ unwrap_or (value_given text c.name (unwrap_or r.objective [])) (pos 0)) (map column_of r.columns)
          (all_map (λ c. c.cost ≡ unwrap_or (value_given text c.name (unwrap_or r.objective [])) (pos 0)) column_of r.columns
          (all_on (λ c. value_of_column 0 c ≡ value_given text c.name (unwrap_or r.objective [])) (λ c. unwrap_or c.cost (pos 0) ≡ unwrap_or (value_given text c.name (unwrap_or r.objective [])) (pos 0)) r.columns
          (λ c h. ap (λ (o : Option ℤ). unwrap_or o (pos 0)) h) (cell_each text r read sound 0 (unwrap_or r.objective []) first)));
      entries = (λ i d lt k row h. All-from_recursion (λ c. entry_in (suc k) c.entries ≡ unwrap_or (value_given text c.name row.name) (pos 0)) (map column_of r.columns) (entries_each text r read sound ended k row h) i d lt);
      rights = All-from_recursion (λ row. row.right ≡ unwrap_or (right_given text row.name) (pos 0)) (map row_of r.rows)
          (all_map (λ row. row.right ≡ unwrap_or (right_given text row.name) (pos 0)) row_of r.rows
          (all_on (λ x. first_given (right_in x.name) r.rows ≡ x.right) (λ x. unwrap_or x.right (pos 0) ≡ unwrap_or (right_given text x.name) (pos 0)) r.rows
          (λ x h. ap (λ (o : Option ℤ). unwrap_or o (pos 0)) (sym h ∙ rights_are text r read x.name)) (each_found (λ (x : ReadRow). x.name) (λ (x : ReadRow). x.right) r.rows (behind_objective r.objective (row_names r.rows) sound.apart))));
      bounds = All-from_recursion (HasBoundsOf text) (map column_of r.columns) (bounds_each text r read sound ended);
    }

pub meanings_given : MeaningsAreGiven
meanings_given text p h =
    let read = text_read text p h in
    subst (IsProgramOf text) read.same (given_by text read.reading read.lines read.sound read.ended)
