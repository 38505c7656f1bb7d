-- The last columns of rows after one more value of the last column.
use Rattle.std.proofs.Common.{suc, zero, ◌≡◌, ◌≢◌, ℕ, ◌+◌, ◌-◌, ◌<◌, ◌≤◌, Bool, true, false, List, [], ◌∷◌, ◌++◌, length, get_or, Option, Some, None, ℤ, inl, inr, refl, sym, ap, ◌∙◌, subst, arith, get_or-set_same, get_or-set_other, add-one}
use Rattle.std.specs.Prelude.{◌||◌, ◌==◌, set, slice_get, is_some, option_map, option_and_then, if◌then◌else◌, ◌⊎◌}
use Rattle.std.specs.List.{list_any}
use Rattle.std.proofs.Math.ListN.{length-set}
use Rattle.std.proofs.lemmas.Bool.Decides.{nat_tests}
use Rattle.flow_model.specs.declared.programs.Entry.{Entry}
use Rattle.mps_text.specs.declared.parts.ReadRow.{ReadRow}
use Rattle.mps_text.specs.declared.parts.ReadColumn.{ReadColumn}
use Rattle.mps_text.specs.Meaning.{row_names, column_names, change_at, has_entry, with_cost, with_entry, with_right}
use Rattle.mps_text.specs.declared.stages.Stage.{Stage}
use Rattle.mps_text.specs.declared.stages.Stage.TheVariants.{Columns}
use Rattle.mps_text.specs.inner.Kept.{AreLastColumns, IsKept, takes_columns, precedes_columns}

-- an element that is there
pub get_some : {A : Type 0} (xs : List A) (i : ℕ) (d : A) → i < length xs → slice_get xs i ≡ Some (get_or xs i d)
get_some [] i d h = absurd (omega arith)
get_some (x ∷ xs) zero d h = refl
get_some (x ∷ xs) (suc i) d h = get_some xs i d (omega arith)

pub changed : {A : Type 0} (f : A → Option A) (xs : List A) (i : ℕ) (d y : A) → i < length xs → f (get_or xs i d) ≡ Some y → change_at i f xs ≡ Some (set xs i y)
changed {A} f xs i d y lt h =
    ap (λ (o : Option A). option_map (λ (v : A). set xs i v) (option_and_then f o)) (get_some xs i d lt) ∙ ap (λ (o : Option A). option_map (λ (v : A). set xs i v) o) h

pub refused : {A : Type 0} (f : A → Option A) (xs : List A) (i : ℕ) (d : A) → i < length xs → f (get_or xs i d) ≡ None → change_at i f xs ≡ None
refused {A} f xs i d lt h =
    ap (λ (o : Option A). option_map (λ (v : A). set xs i v) (option_and_then f o)) (get_some xs i d lt) ∙ ap (λ (o : Option A). option_map (λ (v : A). set xs i v) o) h

-- a change that keeps the name of a column
pub names_kept : (columns : List ReadColumn) (i : ℕ) (d c : ReadColumn) → i < length columns → c.name ≡ (get_or columns i d).name → column_names (set columns i c) ≡ column_names columns
names_kept [] i d c h e = refl
names_kept (x ∷ columns) zero d c h e = ap (λ (z : List ℕ). z ∷ column_names columns) e
names_kept (x ∷ columns) (suc i) d c h e = ap (λ (z : List (List ℕ)). x.name ∷ z) (names_kept columns i d c (omega arith) e)

-- the last column with a value that is no entry
pub last_columns_stay : (last_columns : List ℕ) (rows : List ReadRow) (columns : List ReadColumn) (i : ℕ) (d c : ReadColumn) → AreLastColumns last_columns rows columns → i < length columns → i ≡ length columns - 1 → c.entries ≡ (get_or columns i d).entries
    → AreLastColumns last_columns rows (set columns i c)
last_columns_stay last_columns rows columns i d c h lt last same =
    let size : length (set columns i c) ≡ length columns = length-set columns i c in
    record {
      size = h.size;
      bound = (λ k small. let b = h.bound k small in omega arith);
      last = (λ k e small some.
          let there : get_or (set columns i c) (length (set columns i c) - 1) e ≡ c = ap (λ (n : ℕ). get_or (set columns i c) n e) (ap (λ (n : ℕ). n - 1) size ∙ sym last) ∙ get_or-set_same columns i c e lt in
          let old : (get_or last_columns k 0 == length columns) ≡ has_entry (suc k) (get_or columns i d) =
          h.last k d small (omega arith) ∙ ap (λ (n : ℕ). has_entry (suc k) (get_or columns n d)) (sym last) in
          ap (λ (n : ℕ). get_or last_columns k 0 == n) size ∙ (old ∙ (ap (λ (z : List Entry). list_any (λ e. e.row == suc k) z) (sym same) ∙ ap (λ (z : ReadColumn). has_entry (suc k) z) (sym there))));
    }

begun : (stage : Stage) → stage ≡ Columns → precedes_columns stage ≡ true → ⊥
begun stage e h = let f : false ≡ true = sym (ap precedes_columns e) ∙ h in absurd (cc)

-- what is kept after a change of the last column that keeps its name, with last columns of rows that agree
pub kept_last : (stage : Stage) (names : List (List ℕ)) (rows : List ReadRow) (last_columns later : List ℕ) (names_of_columns : List (List ℕ)) (columns : List ReadColumn) (i : ℕ) (d c : ReadColumn)
    → IsKept stage names rows last_columns names_of_columns columns → stage ≡ Columns → i < length columns → c.name ≡ (get_or columns i d).name
    → (AreLastColumns last_columns rows columns → AreLastColumns later rows (set columns i c)) → IsKept stage names rows later names_of_columns (set columns i c)
kept_last stage names rows last_columns later names_of_columns columns i d c h at lt name changes =
    record {
      row_names_are = h.row_names_are;
      column_names_are = h.column_names_are ∙ sym (names_kept columns i d c lt name);
      last_columns_are = (λ t. changes (h.last_columns_are t));
      none_yet = (λ p. absurd (begun stage at p));
    }

-- a row has an entry behind others where it had one, or where this is its entry
entry_behind : (row : ℕ) (entries : List Entry) (e : Entry) → list_any (λ d. d.row == row) (entries ++ e ∷ []) ≡ (list_any (λ d. d.row == row) entries || (e.row == row))
entry_behind row [] e = or_false (e.row == row)
  where
    or_false : (b : Bool) → (b || false) ≡ b
    or_false true = refl
    or_false false = refl
entry_behind row (d ∷ entries) e = by (d.row == row) (entry_behind row entries e)
  where
    by : (b : Bool) → list_any (λ d. d.row == row) (entries ++ e ∷ []) ≡ (list_any (λ d. d.row == row) entries || (e.row == row)) → (b || list_any (λ d. d.row == row) (entries ++ e ∷ [])) ≡ ((b || list_any (λ d. d.row == row) entries) || (e.row == row))
    by true next = refl
    by false next = next

or_true : (a b : Bool) → b ≡ true → (a || b) ≡ true
or_true true b h = refl
or_true false b h = h

or_left : (a b : Bool) → b ≡ false → (a || b) ≡ a
or_left true b h = refl
or_left false b h = h

other : (x k : ℕ) → x ≢ k → (x + 1 == suc k) ≡ false
other x k h = grind (arith, nat_tests)

same_row : (x k : ℕ) → x ≡ k → (x + 1 == suc k) ≡ true
same_row x k h = grind (arith, nat_tests)

same_size : (n m : ℕ) → n ≡ m → (n == m) ≡ true
same_size n m h = grind (arith, nat_tests)

same_or_not : (x y : ℕ) → (x ≡ y) ⊎ (x ≢ y)
same_or_not x y = grind arith

-- one of the changed last columns
last_column_bound : (last_columns : List ℕ) (place count k size : ℕ) → (place ≡ k) ⊎ (place ≢ k) → place < length last_columns → count ≡ size → get_or last_columns k 0 ≤ size → get_or (set last_columns place count) k 0 ≤ size
last_column_bound last_columns place count k size (inl e) fits same below = let there = get_or-set_same last_columns place count 0 fits in subst (λ (z : ℕ). get_or (set last_columns place count) z 0 ≤ size) e (omega arith)
last_column_bound last_columns place count k size (inr n) fits same below = let there = get_or-set_other last_columns place k count 0 (λ e. n (sym e)) in omega arith

last_column_has_entry : (last_columns : List ℕ) (place count k size : ℕ) (old : Bool) → (place ≡ k) ⊎ (place ≢ k) → place < length last_columns → count ≡ size → (get_or last_columns k 0 == size) ≡ old → (get_or (set last_columns place count) k 0 == size) ≡ (old || (place + 1 == suc k))
last_column_has_entry last_columns place count k size old (inl e) fits same was =
    let there : get_or (set last_columns place count) k 0 ≡ count = ap (λ (z : ℕ). get_or (set last_columns place count) z 0) (sym e) ∙ get_or-set_same last_columns place count 0 fits in
    same_size (get_or (set last_columns place count) k 0) size (there ∙ same) ∙ sym (or_true old (place + 1 == suc k) (same_row place k e))
last_column_has_entry last_columns place count k size old (inr n) fits same was =
    let there : get_or (set last_columns place count) k 0 ≡ get_or last_columns k 0 = get_or-set_other last_columns place k count 0 (λ e. n (sym e)) in
    ap (λ (z : ℕ). z == size) there ∙ (was ∙ sym (or_left old (place + 1 == suc k) (other place k n)))

-- the last column with one more entry
pub last_columns_move : (last_columns : List ℕ) (rows : List ReadRow) (columns : List ReadColumn) (i place count : ℕ) (d c : ReadColumn) (value : ℤ) → AreLastColumns last_columns rows columns → i < length columns → i ≡ length columns - 1 → place < length rows → count ≡ length columns
    → c.entries ≡ (get_or columns i d).entries ++ record { row = place + 1; value = value } ∷ []
    → AreLastColumns (set last_columns place count) rows (set columns i c)
last_columns_move last_columns rows columns i place count d c value h lt last_is within count_is entries =
    let size : length (set columns i c) ≡ length columns = length-set columns i c in
    let room : length (set last_columns place count) ≡ length last_columns = length-set last_columns place count in
    let fits : place < length last_columns = let s = h.size in omega arith in
    record {
      size = room ∙ h.size;
      bound = (λ k small. let b = h.bound k (omega arith) in let m = last_column_bound last_columns place count k (length columns) (same_or_not place k) fits count_is b in omega arith);
      last = (λ k e small some.
          let there : get_or (set columns i c) (length (set columns i c) - 1) e ≡ c = ap (λ (n : ℕ). get_or (set columns i c) n e) (ap (λ (n : ℕ). n - 1) size ∙ sym last_is) ∙ get_or-set_same columns i c e lt in
          let old : k < length last_columns → (get_or last_columns k 0 == length columns) ≡ has_entry (suc k) (get_or columns i d) =
          (λ at. h.last k d at (omega arith) ∙ ap (λ (n : ℕ). has_entry (suc k) (get_or columns n d)) (sym last_is)) in
          let grown : has_entry (suc k) c ≡ (has_entry (suc k) (get_or columns i d) || (place + 1 == suc k)) =
          ap (λ (z : List Entry). list_any (λ e. e.row == suc k) z) entries ∙ entry_behind (suc k) (get_or columns i d).entries (record { row = place + 1; value = value }) in
          ap (λ (n : ℕ). get_or (set last_columns place count) k 0 == n) size ∙ ((last_column_has_entry last_columns place count k (length columns) (has_entry (suc k) (get_or columns i d)) (same_or_not place k) fits count_is (old (omega arith)) ∙ sym grown) ∙ ap (λ (z : ReadColumn). has_entry (suc k) z) (sym there)));
    }

-- a second value of a row is refused
pub entry_refused : (last_columns : List ℕ) (rows : List ReadRow) (columns : List ReadColumn) (place i : ℕ) (value : ℤ) (d : ReadColumn) → AreLastColumns last_columns rows columns → place < length rows → 0 < length columns → i ≡ length columns - 1 → get_or last_columns place 0 ≡ length columns
    → change_at i (with_entry (place + 1) value) columns ≡ None
entry_refused last_columns rows columns place i value d h within some last is_last =
    let fits : place < length last_columns = let s = h.size in omega arith in
    let here : has_entry (suc place) (get_or columns (length columns - 1) d) ≡ true = sym (h.last place d fits some) ∙ same_size (get_or last_columns place 0) (length columns) is_last in
    let there : has_entry (place + 1) (get_or columns i d) ≡ true = ap (λ (k : ℕ). has_entry k (get_or columns i d)) (add-one place) ∙ (ap (λ (n : ℕ). has_entry (suc place) (get_or columns n d)) last ∙ here) in
    refused (with_entry (place + 1) value) columns i d (omega arith)
    (ap (λ (b : Bool). if b then None else Some (record (get_or columns i d) { entries = (get_or columns i d).entries ++ record { row = place + 1; value = value } ∷ [] })) there)

other_size : (n m : ℕ) → n ≢ m → (n == m) ≡ false
other_size n m h = grind (arith, nat_tests)

-- the first value of a row is taken
pub entry_taken : (last_columns : List ℕ) (rows : List ReadRow) (columns : List ReadColumn) (place i : ℕ) (value : ℤ) (d c : ReadColumn) → AreLastColumns last_columns rows columns → place < length rows → 0 < length columns → i ≡ length columns - 1 → get_or last_columns place 0 ≢ length columns
    → c ≡ record (get_or columns i d) { entries = (get_or columns i d).entries ++ record { row = place + 1; value = value } ∷ [] } → change_at i (with_entry (place + 1) value) columns ≡ Some (set columns i c)
entry_taken last_columns rows columns place i value d c h within some last is_last e =
    let fits : place < length last_columns = let s = h.size in omega arith in
    let here : has_entry (suc place) (get_or columns (length columns - 1) d) ≡ false = sym (h.last place d fits some) ∙ other_size (get_or last_columns place 0) (length columns) is_last in
    let there : has_entry (place + 1) (get_or columns i d) ≡ false = ap (λ (k : ℕ). has_entry k (get_or columns i d)) (add-one place) ∙ (ap (λ (n : ℕ). has_entry (suc place) (get_or columns n d)) last ∙ here) in
    changed (with_entry (place + 1) value) columns i d c (omega arith)
    (ap (λ (b : Bool). if b then None else Some (record (get_or columns i d) { entries = (get_or columns i d).entries ++ record { row = place + 1; value = value } ∷ [] })) there ∙ ap (λ (z : ReadColumn). Some z) (sym e))

-- a column with one more entry, from what is the same
pub one_more : (d e : ReadColumn) (row : ℕ) (v w : ℤ) → v ≡ w → d ≡ e
    → record d { entries = d.entries ++ record { row = row; value = v } ∷ [] } ≡ record e { entries = e.entries ++ record { row = row; value = w } ∷ [] }
one_more d e row v w same column = (λ i. record (column i) { entries = (column i).entries ++ record { row = row; value = same i } ∷ [] })

-- a change that keeps the name of a row
pub row_names_kept : (rows : List ReadRow) (i : ℕ) (d c : ReadRow) → i < length rows → c.name ≡ (get_or rows i d).name → row_names (set rows i c) ≡ row_names rows
row_names_kept [] i d c h e = refl
row_names_kept (x ∷ rows) zero d c h e = ap (λ (z : List ℕ). z ∷ row_names rows) e
row_names_kept (x ∷ rows) (suc i) d c h e = ap (λ (z : List (List ℕ)). x.name ∷ z) (row_names_kept rows i d c (omega arith) e)

never : (b : Bool) → b ≡ false → b ≡ true → ⊥
never b x y = absurd (cc)

-- what is kept behind the columns, after a change that keeps the names
pub kept_late : (stage : Stage) (names : List (List ℕ)) (rows changed : List ReadRow) (last_columns : List ℕ) (names_of_columns : List (List ℕ)) (columns others : List ReadColumn)
    → IsKept stage names rows last_columns names_of_columns columns → takes_columns stage ≡ false → precedes_columns stage ≡ false → row_names changed ≡ row_names rows → column_names others ≡ column_names columns
    → IsKept stage names changed last_columns names_of_columns others
kept_late stage names rows changed last_columns names_of_columns columns others h late behind rows_same columns_same =
    record {
      row_names_are = h.row_names_are ∙ sym rows_same;
      column_names_are = h.column_names_are ∙ sym columns_same;
      last_columns_are = (λ t. absurd (never (takes_columns stage) late t));
      none_yet = (λ p. absurd (never (precedes_columns stage) behind p));
    }

-- a value where there was none
pub cost_taken : (v w : ℤ) (d e : ReadColumn) → v ≡ w → d ≡ e → is_some d.cost ≡ false → with_cost w e ≡ Some (record d { cost = Some v })
cost_taken v w d e same column none = subst (λ (z : ReadColumn). with_cost w z ≡ Some (record d { cost = Some v })) column (rw none (ap (λ (z : ℤ). Some (record d { cost = Some z })) (sym same)))

pub right_side_taken : (v w : ℤ) (d e : ReadRow) → v ≡ w → d ≡ e → is_some d.right ≡ false → with_right w e ≡ Some (record d { right = Some v })
right_side_taken v w d e same row none = subst (λ (z : ReadRow). with_right w z ≡ Some (record d { right = Some v })) row (rw none (ap (λ (z : ℤ). Some (record d { right = Some z })) (sym same)))
