-- What is taken off arcs, each by its number. Numbers of arcs count from 1, and their places from 0.
use Rattle.std.specs.Prelude.{◌≡◌, ◌≢◌, ℕ, ◌+◌, ◌-◌, ◌*◌, ◌≤◌, List, All, AllPairs, length, sum_by, slice_index}
pub use Rattle.flow_model.specs.Sums.{weigh}

-- f at the places of the arcs with these numbers, added up
abbrev pub weight_along : (ℕ → ℕ) → List ℕ → ℕ
weight_along f numbers = sum_by (λ a. f (a - 1)) numbers

-- under any weights of the places, what was there is what is left and so many times what lies along the arcs
abbrev pub IsTaken : List ℕ → List ℕ → ℕ → List ℕ → Type 0
IsTaken old new times numbers = (f : ℕ → ℕ) → weigh f old ≡ weigh f new + times * weight_along f numbers

-- no arc stands twice among these, and each has so many units left
pub record HaveLeft (left : List ℕ) (times : ℕ) (arcs : List ℕ) : Type 0 where
  pub apart : AllPairs (λ a b. a ≢ b) arcs
  pub each : All (λ a. (1 ≤ a) × (a ≤ length left) × (times ≤ slice_index left (a - 1))) arcs
