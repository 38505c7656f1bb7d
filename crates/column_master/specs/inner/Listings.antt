-- Lists of what has a number, ascending.
use Rattle.std.specs.Prelude.{◌≡◌, ℕ, ◌+◌, ◌≤◌, ◌<◌, List, All, AllPairs, length, slice_index}
use Rattle.cert_text.specs.declared.lines.ArcPart.{ArcPart}
use Rattle.cert_laws.specs.Needs.{part_in}

-- the elements have ascending numbers from 1 to n, and each keeps a rule
pub record AreListed {X : Type 0} (number : X → ℕ) (Keeps : X → Type 0) (n : ℕ) (xs : List X) : Type 0 where
  pub few : length xs ≤ n
  pub order : AllPairs (λ x y. number x < number y) xs
  pub each : All (λ x. (1 ≤ number x) × Keeps x) xs
  pub among : All (λ x. number x ≤ n) xs

-- the parts are those of the first n of these values
abbrev pub HoldsFirst : ℕ → List ArcPart → List ℕ → Type 0
HoldsFirst n parts values = (k : ℕ) → k < n → slice_index values k ≡ part_in parts (k + 1)
