-- The first place of a list that passes a test, and what stands before it.
use Rattle.std.proofs.Common.{suc, zero, ◌≡◌, ℕ, ◌+◌, ◌<◌, ◌≤◌, Bool, true, false, cond, List, [], ◌∷◌, length, take, Some, None, refl, sym, arith}
use Rattle.std.specs.Prelude.{◌&&◌, not, nat_lt, position}
use Rattle.std.specs.List.{list_all, position_or_len}
use Rattle.std.proofs.lemmas.Bool.Decides.{nat_tests}
use Rattle.std.proofs.lemmas.List.Sums.{prefix_len-le-length}

pub place_some : {X : Type 0} (p : X → Bool) (xs : List X) (i : ℕ) → position p xs ≡ Some i → (i ≡ position_or_len p xs) × (i < length xs)
place_some p xs i h = by (nat_lt (position_or_len p xs) (length xs)) refl h
  where
    by : (b : Bool) → nat_lt (position_or_len p xs) (length xs) ≡ b → cond b (Some (position_or_len p xs)) None ≡ Some i → (i ≡ position_or_len p xs) × (i < length xs)
    by true e h = let same : position_or_len p xs ≡ i = cc in (sym same, grind (arith, nat_tests))
    by false e h = absurd (cc)

pub place_none : {X : Type 0} (p : X → Bool) (xs : List X) → position p xs ≡ None → length xs ≡ position_or_len p xs
place_none p xs h = by (nat_lt (position_or_len p xs) (length xs)) refl h
  where
    by : (b : Bool) → nat_lt (position_or_len p xs) (length xs) ≡ b → cond b (Some (position_or_len p xs)) None ≡ None → length xs ≡ position_or_len p xs
    by true e h = absurd (cc)
    by false e h = let most = prefix_len-le-length (λ x. not (p x)) xs in grind (arith, nat_tests)

pub none_before : {X : Type 0} (p : X → Bool) (xs : List X) (k : ℕ) → k ≤ position_or_len p xs → list_all (λ b. not (p b)) (take k xs) ≡ true
none_before p xs zero h = refl
none_before p [] (suc k) h = refl
none_before p (x ∷ xs) (suc k) h = by (p x) refl (none_before p xs k)
  where
    by : (b : Bool) → p x ≡ b → (k ≤ position_or_len p xs → list_all (λ b. not (p b)) (take k xs) ≡ true) → (not (p x) && list_all (λ b. not (p b)) (take k xs)) ≡ true
    by true e next = let z : position_or_len p (x ∷ xs) ≡ 0 = rw e refl in absurd (omega arith)
    by false e next =
        let z : position_or_len p (x ∷ xs) ≡ 1 + position_or_len p xs = rw e refl in
        rw e (next (omega arith))
