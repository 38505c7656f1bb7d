-- The same of a line of the right sides or the bounds.
use Rattle.std.proofs.Common.{suc, zero, ◌≡◌, ℕ, Bool, true, false, List, [], ◌∷◌, ◌++◌, length, Option, Some, None, Ok, ℤ, refl, ap, ◌∙◌}
use Rattle.std.specs.Prelude.{bytes_eq, codes, set, slice_get, option_map, option_and_then, if◌then◌else◌}
use Rattle.mps_text.specs.declared.faults.MpsCause.TheVariants as cause
use Rattle.mps_text.specs.declared.stages.BoundKind.{BoundKind}
use Rattle.mps_text.specs.declared.stages.BoundKind.TheVariants.{Upper, Lower, Fixed}
use Rattle.mps_text.specs.declared.parts.ReadRow.{ReadRow}
use Rattle.mps_text.specs.declared.parts.ReadColumn.{ReadColumn}
use Rattle.mps_text.specs.Meaning.{Reading, owes, gives, place_of, row_names, column_names, is_name, value_in, bound_in, each_in, change_at, change_each, with_right, with_bound, right_line, rights_line, bound_kind_in, bounds_line}
use Rattle.mps_text.specs.Given.{cells_of}
use Rattle.mps_text.proofs.Steps.{cells_for, ok_same, owed, same_bytes, there}

-- a line of the right sides
pub record AreRights (r : Reading) (fields : List (List ℕ)) (s : Reading) : Type 0 where
  pub name : List ℕ
  pub rows : List (List ℕ)
  pub values : List (List ℕ)
  pub cells : cells_of fields ≡ cells_for name rows values
  pub places : List ℕ
  pub places_are : each_in (λ row. place_of row (row_names r.rows)) rows ≡ Some places
  pub numbers : List ℤ
  pub numbers_are : each_in value_in values ≡ Some numbers
  pub changed : List ReadRow
  pub change : change_each with_right places numbers r.rows ≡ Some changed
  pub after : record r { rows = changed } ≡ s

some_rights : (r : Reading) (fields : List (List ℕ)) (s : Reading) (name : List ℕ) (rows values : List (List ℕ)) → cells_of fields ≡ cells_for name rows values → right_line r name rows values ≡ Ok s → AreRights r fields s
some_rights r fields s name rows values cells h =
    let put = λ (places : List ℕ) (numbers : List ℤ). gives (change_each with_right places numbers r.rows) cause.Twice (λ changed. Ok (record r { rows = changed })) in
    let valued = λ (places : List ℕ). gives (each_in value_in values) cause.Value (put places) in
    let named = owed (is_name name) cause.Name (gives (each_in (λ row. place_of row (row_names r.rows)) rows) cause.Row valued) s h in
    let places = there (each_in (λ row. place_of row (row_names r.rows)) rows) cause.Row valued s named.1 in
    let numbers = there (each_in value_in values) cause.Value (put places.value) s places.next in
    let changed = there (change_each with_right places.value numbers.value r.rows) cause.Twice (λ changed. Ok (record r { rows = changed })) s numbers.next in
    record {
      name = name;
      rows = rows;
      values = values;
      cells = cells;
      places = places.value;
      places_are = places.is;
      numbers = numbers.value;
      numbers_are = numbers.is;
      changed = changed.value;
      change = changed.is;
      after = ok_same _ s changed.next;
    }

pub rights_taken : (r : Reading) (fields : List (List ℕ)) (s : Reading) → rights_line r fields ≡ Ok s → AreRights r fields s
rights_taken r [] s h = absurd (cc)
rights_taken r (a ∷ []) s h = absurd (cc)
rights_taken r (a ∷ b ∷ []) s h = absurd (cc)
rights_taken r (a ∷ b ∷ c ∷ []) s h = some_rights r (a ∷ b ∷ c ∷ []) s a (b ∷ []) (c ∷ []) refl h
rights_taken r (a ∷ b ∷ c ∷ d ∷ []) s h = absurd (cc)
rights_taken r (a ∷ b ∷ c ∷ d ∷ e ∷ []) s h = some_rights r (a ∷ b ∷ c ∷ d ∷ e ∷ []) s a (b ∷ d ∷ []) (c ∷ e ∷ []) refl h
rights_taken r (a ∷ b ∷ c ∷ d ∷ e ∷ f ∷ fields) s h = absurd (cc)

-- a line of the bounds
abbrev pub bound_word : BoundKind → List ℕ
bound_word Upper = codes "UP"
bound_word Lower = codes "LO"
bound_word Fixed = codes "FX"

pub record IsBound (r : Reading) (fields : List (List ℕ)) (s : Reading) : Type 0 where
  pub kind : BoundKind
  pub set : List ℕ
  pub column : List ℕ
  pub value : List ℕ
  pub is : fields ≡ bound_word kind ∷ set ∷ column ∷ value ∷ []
  pub place : ℕ
  pub place_is : place_of column (column_names r.columns) ≡ Some place
  pub number : ℕ
  pub number_is : bound_in value ≡ Some number
  pub changed : List ReadColumn
  pub change : change_at place (with_bound kind number) r.columns ≡ Some changed
  pub after : record r { columns = changed } ≡ s

some_bound : (a b : BoundKind) → Some a ≡ Some b → a ≡ b
some_bound a b h = cc

word_is : (field : List ℕ) (k : BoundKind) → bound_kind_in field ≡ Some k → field ≡ bound_word k
word_is field k h = first (bytes_eq field (codes "UP")) (bytes_eq field (codes "LO")) (bytes_eq field (codes "FX")) refl refl refl h
  where
    first : (a b c : Bool) → bytes_eq field (codes "UP") ≡ a → bytes_eq field (codes "LO") ≡ b → bytes_eq field (codes "FX") ≡ c → (if a then Some Upper else (if b then Some Lower else (if c then Some Fixed else None))) ≡ Some k → field ≡ bound_word k
    first true b c x y z h = same_bytes field (codes "UP") x ∙ ap bound_word (some_bound Upper k h)
    first false true c x y z h = same_bytes field (codes "LO") y ∙ ap bound_word (some_bound Lower k h)
    first false false true x y z h = same_bytes field (codes "FX") z ∙ ap bound_word (some_bound Fixed k h)
    first false false false x y z h = absurd (cc)

pub bound_taken : (r : Reading) (fields : List (List ℕ)) (s : Reading) → bounds_line r fields ≡ Ok s → IsBound r fields s
bound_taken r [] s h = absurd (cc)
bound_taken r (a ∷ []) s h = absurd (cc)
bound_taken r (a ∷ b ∷ []) s h = absurd (cc)
bound_taken r (a ∷ b ∷ c ∷ []) s h = absurd (cc)
bound_taken r (a ∷ b ∷ c ∷ d ∷ e ∷ fields) s h = absurd (cc)
bound_taken r (kind ∷ set ∷ column ∷ value ∷ []) s h =
    let put = λ (k : BoundKind) (place number : ℕ). gives (change_at place (with_bound k number) r.columns) cause.Twice (λ changed. Ok (record r { columns = changed })) in
    let valued = λ (k : BoundKind) (place : ℕ). gives (bound_in value) cause.Value (put k place) in
    let placed = λ (k : BoundKind). gives (place_of column (column_names r.columns)) cause.Column (valued k) in
    let k = there (bound_kind_in kind) cause.Kind (λ k. owes (is_name set) cause.Name (placed k)) s h in
    let named = owed (is_name set) cause.Name (placed k.value) s k.next in
    let place = there (place_of column (column_names r.columns)) cause.Column (valued k.value) s named.1 in
    let number = there (bound_in value) cause.Value (put k.value place.value) s place.next in
    let changed = there (change_at place.value (with_bound k.value number.value) r.columns) cause.Twice (λ changed. Ok (record r { columns = changed })) s number.next in
    record {
      kind = k.value;
      set = set;
      column = column;
      value = value;
      is = ap (λ (z : List ℕ). z ∷ set ∷ column ∷ value ∷ []) (word_is kind k.value k.is);
      place = place.value;
      place_is = place.is;
      number = number.value;
      number_is = number.is;
      changed = changed.value;
      change = changed.is;
      after = ok_same _ s changed.next;
    }

-- a change of one element, with those before it and behind it
pub record IsChange {A : Type 0} (f : A → Option A) (i : ℕ) (xs ys : List A) : Type 0 where
  pub before : List A
  pub old : A
  pub new : A
  pub behind : List A
  pub was : xs ≡ before ++ old ∷ behind
  pub is : ys ≡ before ++ new ∷ behind
  pub place : length before ≡ i
  pub by : f old ≡ Some new

list_some : {A : Type 0} (xs ys : List A) → Some xs ≡ Some ys → ys ≡ xs
list_some xs ys h = cc

one_more : (n i : ℕ) → n ≡ i → suc n ≡ suc i
one_more n i h = ap (λ (z : ℕ). suc z) h

pub changed_there : {A : Type 0} (f : A → Option A) (i : ℕ) (xs ys : List A) → change_at i f xs ≡ Some ys → IsChange f i xs ys
changed_there f i [] ys h = absurd (cc)
changed_there {A} f zero (x ∷ xs) ys h = by (f x) refl h
  where
    by : (o : Option A) → f x ≡ o → option_map (λ (y : A). y ∷ xs) o ≡ Some ys → IsChange f zero (x ∷ xs) ys
    by None e h = absurd (cc)
    by (Some y) e h = record { before = []; old = x; new = y; behind = xs; was = refl; is = list_some (y ∷ xs) ys h; place = refl; by = e }
changed_there {A} f (suc i) (x ∷ xs) ys h = by (option_and_then f (slice_get xs i)) refl h (λ y e. changed_there f i xs (set xs i y) (ap (λ (o : Option A). option_map (λ (v : A). set xs i v) o) e))
  where
    by : (o : Option A) → option_and_then f (slice_get xs i) ≡ o → option_map (λ (y : A). x ∷ set xs i y) o ≡ Some ys → ((y : A) → option_and_then f (slice_get xs i) ≡ Some y → IsChange f i xs (set xs i y)) → IsChange f (suc i) (x ∷ xs) ys
    by None e h next = absurd (cc)
    by (Some y) e h next =
        let rest = next y e in
        record {
          before = x ∷ rest.before;
          old = rest.old;
          new = rest.new;
          behind = rest.behind;
          was = ap (λ (z : List A). x ∷ z) rest.was;
          is = list_some (x ∷ set xs i y) ys h ∙ ap (λ (z : List A). x ∷ z) rest.is;
          place = one_more (length rest.before) i rest.place;
          by = rest.by;
        }
