-- Places in a list, from 1 on.
use Rattle.std.specs.Prelude.{◌≡◌, ℕ, ◌-◌, ◌≤◌, List, length, slice_index_or}

-- the element stands at this number
pub record IsNumber {X : Type 0} (xs : List X) (n : ℕ) (x : X) : Type 0 where
  pub low : 1 ≤ n
  pub high : n ≤ length xs
  pub here : (d : X) → slice_index_or xs (n - 1) d ≡ x
