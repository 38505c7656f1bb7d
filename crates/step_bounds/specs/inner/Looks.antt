-- The best of the steps that were looked at so far.
use Rattle.std.specs.Prelude.{◌≡◌, ℕ, ◌+◌, ◌-◌, ◌*◌, ◌<◌, ◌≤◌, ◌⊎◌}
use Rattle.packing_laws.specs.Instances.{InstanceValue}
use Rattle.packing_laws.specs.Floors.{room_in}
use Rattle.step_bounds.specs.declared.bounds.StepFound.{StepFound}
use Rattle.step_bounds.specs.Steps.{IsStep, step_value_of}

-- what was found is the step value of a step of dimension d
pub record IsFound (I : InstanceValue) (d : ℕ) (f : StepFound) : Type 0 where
  pub dim : f.dim ≡ d
  pub step : IsStep I d f.step
  pub value : f.value ≡ step_value_of I d f.step

-- it is no less than the value of step L, nor is its step greater where both values are equal
pub record Beats (I : InstanceValue) (d L : ℕ) (f : StepFound) : Type 0 where
  pub value : step_value_of I d L ≤ f.value
  pub step : f.value ≤ step_value_of I d L → f.step ≤ L

-- it is the best of dimension d
pub record IsBestIn (I : InstanceValue) (d : ℕ) (f : StepFound) : Type 0 where
  pub found : IsFound I d f
  pub best : (L : ℕ) → IsStep I d L → Beats I d L f

-- the new one beats what the old one beats
pub record Improves (I : InstanceValue) (d : ℕ) (old new : StepFound) : Type 0 where
  pub found : IsFound I d new
  pub beats : (L : ℕ) → Beats I d L old → Beats I d L new

-- it beats the least step at which a weight w counts for a whole bin, where there is one
abbrev pub HasLooked : InstanceValue → ℕ → StepFound → ℕ → Type 0
HasLooked I d f w = 2 * (room_in I d 1 + 1 - w) ≤ room_in I d 1 → Beats I d (room_in I d 1 + 1 - w) f

-- the next where its value is greater, and else the best so far
abbrev pub IsGreaterOf : StepFound → StepFound → StepFound → Type 0
IsGreaterOf best next f = ((best.value < next.value) × (f ≡ next)) ⊎ ((next.value ≤ best.value) × (f ≡ best))

-- the next comes before the best so far: its value is greater, or equal with a smaller step
abbrev pub ComesFirst : StepFound → StepFound → Type 0
ComesFirst next best = (best.value < next.value) ⊎ ((next.value ≡ best.value) × (next.step < best.step))

abbrev pub IsBetterOf : StepFound → StepFound → StepFound → Type 0
IsBetterOf best next f = (ComesFirst next best × (f ≡ next)) ⊎ ((ComesFirst next best → ⊥) × (f ≡ best))

-- it is the best of the first n dimensions
pub record IsBestTo (I : InstanceValue) (n : ℕ) (f : StepFound) : Type 0 where
  pub within : f.dim ≤ n
  pub best : IsBestIn I f.dim f
  pub greatest : (d L : ℕ) → d ≤ n → IsStep I d L → step_value_of I d L ≤ f.value
  pub first : (d L : ℕ) → d < f.dim → IsStep I d L → step_value_of I d L < f.value
