-- Places of names in lists of names that are apart.
use Rattle.std.proofs.Common.{suc, zero, ◌≡◌, ◌≢◌, ℕ, ◌-◌, ◌<◌, ◌≤◌, Bool, true, false, List, [], ◌∷◌, ◌++◌, length, get_or, Some, None, refl, sym, ap, ◌∙◌, subst, arith}
use Rattle.std.specs.Prelude.{◌&&◌, not, nat_le, nat_lt, bytes_eq, position}
use Rattle.std.specs.List.{list_all, position_or_len, AllByRecursion}
use Rattle.std.proofs.lemmas.Bool.Decides.{nat_tests}
use Rattle.std.proofs.lemmas.Slice.Eq.{bytes_eq-Decides}
use Rattle.std.proofs.lemmas.List.{get_or_append_left}
use Rattle.std.proofs.lemmas.List.Elements.{recursion_from_All}
use Rattle.std.proofs.lemmas.List.Sums.{position_or_len_is, fails_before_first}
use Rattle.flow_model.specs.Programs.{IsName, AreDistinct, marker_word}
use Rattle.mps_text.specs.Meaning.{is_visible, is_name, place_of}
use Rattle.mps_text.proofs.WrittenNumbers.{joint, IsField}

byte_shows : (b : ℕ) → (33 ≤ b) × (b ≤ 126) → is_visible b ≡ true
byte_shows b h = grind (arith, nat_tests)

bytes_show : (bs : List ℕ) → AllByRecursion (λ b. (33 ≤ b) × (b ≤ 126)) bs → list_all is_visible bs ≡ true
bytes_show [] h = refl
bytes_show (b ∷ bs) h = joint (is_visible b) (list_all is_visible bs) (byte_shows b h.0) (bytes_show bs h.1)

pub name_field : (name : List ℕ) → IsName name → IsField name
name_field name h =
    let size = h.size in
    (omega arith, bytes_show name (recursion_from_All (λ b. (33 ≤ b) × (b ≤ 126)) name h.bytes))

pub differ : (x y : List ℕ) → x ≢ y → bytes_eq x y ≡ false
differ x y h = by (bytes_eq x y) (λ e. h ((bytes_eq-Decides x y).0 e))
  where
    by : (b : Bool) → (b ≢ true) → b ≡ false
    by true f = absurd (f refl)
    by false f = refl

pub same : (x : List ℕ) → bytes_eq x x ≡ true
same x = (bytes_eq-Decides x x).1 refl

size_test : (n : ℕ) → 1 ≤ n → n ≤ 255 → (nat_le 1 n && nat_le n 255) ≡ true
size_test n low high = grind (arith, nat_tests)

pub name_keeps : (name : List ℕ) → IsName name → is_name name ≡ true
name_keeps name h =
    let other = ap not (differ name marker_word h.other) in
    joint (nat_le 1 (length name) && nat_le (length name) 255) (list_all is_visible name && not (bytes_eq name marker_word)) (size_test (length name) h.size.0 h.size.1)
    (joint (list_all is_visible name) (not (bytes_eq name marker_word)) (name_field name h).1 other)

found : (p : List ℕ → Bool) (xs : List (List ℕ)) (k : ℕ) → position_or_len p xs ≡ k → k < length xs → position p xs ≡ Some k
found p xs k e lt =
    let test : nat_lt k (length xs) ≡ true = grind (arith, nat_tests) in
    rw (e, test) refl

missed : (p : List ℕ → Bool) (xs : List (List ℕ)) → position_or_len p xs ≡ length xs → position p xs ≡ None
missed p xs e =
    let test : nat_lt (length xs) (length xs) ≡ false = grind (arith, nat_tests) in
    rw (e, test) refl

pub place_at : (names : List (List ℕ)) (k : ℕ) (d : List ℕ) → AreDistinct names → k < length names → place_of (get_or names k d) names ≡ Some k
place_at names k d apart lt =
    let first = position_or_len_is (bytes_eq (get_or names k d)) names k d (omega arith) (λ j below. differ (get_or names k d) (get_or names j d) (λ e. apart j k d below lt (sym e))) (λ h. same (get_or names k d)) in
    found (bytes_eq (get_or names k d)) names k first lt

pub seam : {A : Type 0} (xs : List A) (y : A) (ys : List A) (d : A) → get_or (xs ++ y ∷ ys) (length xs) d ≡ y
seam [] y ys d = refl
seam (x ∷ xs) y ys d = seam xs y ys d

length_seam : {A : Type 0} (xs : List A) (y : A) (ys : List A) → length xs < length (xs ++ y ∷ ys)
length_seam [] y ys = omega arith
length_seam (x ∷ xs) y ys = let h = length_seam xs y ys in omega arith

pub place_found : (name : List ℕ) (before after : List (List ℕ)) → AreDistinct (before ++ name ∷ after) → place_of name (before ++ name ∷ after) ≡ Some (length before)
place_found name before after apart =
    subst (λ (z : List ℕ). place_of z (before ++ name ∷ after) ≡ Some (length before)) (seam before name after [])
    (place_at (before ++ name ∷ after) (length before) [] apart (length_seam before name after))

-- a name that is not among these
abbrev pub IsNew : List ℕ → List (List ℕ) → Type 0
IsNew name names = position_or_len (bytes_eq name) names ≡ length names

pub name_new : (name : List ℕ) (before after : List (List ℕ)) → AreDistinct (before ++ name ∷ after) → IsNew name before
name_new name before after apart =
    position_or_len_is (bytes_eq name) before (length before) [] (omega arith)
    (λ j below. differ name (get_or before j []) (λ e. apart j (length before) [] below (length_seam before name after) (get_or_append_left before (name ∷ after) [] j below ∙ (sym e ∙ sym (seam before name after [])))))
    (λ h. absurd (omega arith))

pub place_new : (name : List ℕ) (names : List (List ℕ)) → IsNew name names → place_of name names ≡ None
place_new name names new = missed (bytes_eq name) names new

pub place_last : (name : List ℕ) (names : List (List ℕ)) → IsNew name names → place_of name (names ++ name ∷ []) ≡ Some (length names)
place_last name names new =
    found (bytes_eq name) (names ++ name ∷ []) (length names)
    (position_or_len_is (bytes_eq name) (names ++ name ∷ []) (length names) [] (let lt = length_seam names name [] in omega arith)
    (λ j below. rw (get_or_append_left names (name ∷ []) [] j below) (fails_before_first (bytes_eq name) names j [] (omega (arith, new))))
    (λ h. rw (seam names name [] []) (same name)))
    (length_seam names name [])

-- the name of a row, by its number, among the objective and the rows
pub place_target : (objective : List ℕ) (names : List (List ℕ)) (r : ℕ) → 1 ≤ r → r ≤ length names → AreDistinct (objective ∷ names) → place_of (get_or names (r - 1) []) (objective ∷ names) ≡ Some r
place_target objective names zero low high apart = absurd (omega arith)
place_target objective names (suc k) low high apart =
    let less : suc k - 1 ≡ k = omega arith in
    subst (λ (i : ℕ). place_of (get_or names i []) (objective ∷ names) ≡ Some (suc k)) (sym less) (place_at (objective ∷ names) (suc k) [] apart (omega arith))
