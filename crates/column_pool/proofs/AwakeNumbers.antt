-- The numbers of the columns that are awake.
use Rattle.std.proofs.Common.{◌≡◌, ℕ, List, [], ◌∷◌, map, slice_get, Option, None, Some, suc, zero, ap}
use Rattle.std.specs.Prelude.{Contains}
use Rattle.std.proofs.lemmas.Option.{get_or_from_slice_get, slice_get_within}

module _ {X : Type 0} (number : X → ℕ) where
  -- the number at a place
  pub at-place : (xs : List X) (place : ℕ) (x : X) → slice_get xs place ≡ Some x → slice_get (map number xs) place ≡ Some (number x)
  at-place [] place x e = absurd (cc)
  at-place (y ∷ xs) zero x e = ap (λ (o : Option X). elim o as (λ _. Option ℕ) [ None ↦ None | Some z ↦ Some (number z) ]) e
  at-place (y ∷ xs) (suc place) x e = at-place xs place x e

-- what stands at a place is among all numbers
pub number-among : (numbers : List ℕ) (place n : ℕ) → slice_get numbers place ≡ Some n → Contains numbers n
number-among numbers place n at = (place, slice_get_within numbers place n at, get_or_from_slice_get numbers place n n at)
