-- Different values with numbers from 1 on.
use Rattle.std.specs.Prelude.{◌≡◌, ◌≢◌, ◌⊎◌, ℕ, ◌-◌, ◌≤◌, List, [], ◌∷◌, ◌++◌, AllPairs, Contains, length, slice_index_or}

-- the value has this number
pub record IsNumber {X : Type 0} (xs : List X) (n : ℕ) (x : X) : Type 0 where
  pub low : 1 ≤ n
  pub high : n ≤ length xs
  pub here : (d : X) → slice_index_or xs (n - 1) d ≡ x

-- no value stands twice
abbrev pub AreApart : {X : Type 0} → List X → Type 0
AreApart xs = AllPairs (λ x y. x ≢ y) xs

-- all values keep their numbers, and there may be more values
abbrev pub Grows : {X : Type 0} → List X → List X → Type 0
Grows {X} old new = (n : ℕ) (x : X) → IsNumber old n x → IsNumber new n x

-- the value has number n now, and is the only one that may be new
pub record IsAdded {X : Type 0} (old new : List X) (x : X) (n : ℕ) : Type 0 where
  pub grows : Grows old new
  pub here : IsNumber new n x
  pub only : (y : X) → Contains new y → Contains old y ⊎ (x ≡ y)
  pub apart : AreApart new
  pub new_is : (new ≡ old) ⊎ (new ≡ old ++ x ∷ [])
