-- Step values: costs that no packing goes below, by what each weight counts for against a step.
use Rattle.std.specs.Prelude.{◌≡◌, ℕ, ◌-◌, ◌*◌, ◌<◌, ◌≤◌, List, length, map, sum, nat_lt, nat_le, if◌then◌else◌, sum_by, slice_index}
use Rattle.packing_laws.specs.Instances.{InstanceValue, IsAmong, type_at}
use Rattle.packing_laws.specs.Packings.{IsFloor}
use Rattle.packing_laws.specs.Floors.{least_of, div_up, room_in}
use Rattle.step_bounds.specs.declared.bounds.StepFound.{StepFound}

-- what a weight counts for, where the capacity is W and the step is L with 2 * L ≤ W: all of W where less than L is left
-- beside it, nothing where it is below L, and else itself. Weights that fit a bin count for at most W
abbrev pub stepped : ℕ → ℕ → ℕ → ℕ
stepped W L x = if nat_lt (W - L) x then W else (if nat_le L x then x else 0)

-- what all units count for in dimension d, each in the form that counts least there
abbrev pub stepped_in : InstanceValue → ℕ → ℕ → ℕ → ℕ
stepped_in I d W L = sum_by (λ x. x.demand * least_of (map (λ v. stepped W L (slice_index v (d - 1))) x.forms)) I.items

-- the instance has one type, and in dimension d it holds twice the step
pub record IsStep (I : InstanceValue) (d L : ℕ) : Type 0 where
  pub single : length I.types ≡ 1
  pub dim : IsAmong d I.dims
  pub half : 2 * L ≤ room_in I d 1

-- the step value: what so many bins of the one type cost as hold what all units count for. 0 where the type holds
-- nothing in the dimension: there nothing counts, and a / 0 is 0
abbrev pub step_value_of : InstanceValue → ℕ → ℕ → ℕ
step_value_of I d L = (type_at I 1).cost * div_up (stepped_in I d (room_in I d 1) L) (room_in I d 1)

-- the step bound: the greatest step value, with the first dimension of this value and its least step of this value
pub record IsStepBound (I : InstanceValue) (f : StepFound) : Type 0 where
  pub step : IsStep I f.dim f.step
  pub value : f.value ≡ step_value_of I f.dim f.step
  pub greatest : (d L : ℕ) → IsStep I d L → step_value_of I d L ≤ f.value
  pub first_dim : (d L : ℕ) → IsStep I d L → d < f.dim → step_value_of I d L < f.value
  pub least_step : (L : ℕ) → IsStep I f.dim L → L < f.step → step_value_of I f.dim L < f.value

-- weights that add up to at most the capacity count for at most the capacity
abbrev pub CountsKeepWithin : Type 0
CountsKeepWithin = (W L : ℕ) (xs : List ℕ) → 2 * L ≤ W → sum xs ≤ W → sum (map (stepped W L) xs) ≤ W

-- no packing costs less than a step value
abbrev pub StepValuesAreFloors : Type 0
StepValuesAreFloors = (I : InstanceValue) (d L : ℕ) → IsStep I d L → IsFloor I (step_value_of I d L)
