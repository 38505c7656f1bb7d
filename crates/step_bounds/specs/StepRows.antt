-- Worked instances, and what their step values are.
use Rattle.std.specs.Prelude.{◌≡◌, [], ◌∷◌, None, map}
use Rattle.packing_laws.specs.Instances.{InstanceValue}
use Rattle.packing_laws.specs.FloorExamples.{three_units_of_six, three_halves}
use Rattle.step_bounds.specs.Steps.{stepped, step_value_of}

-- three units of 6 or 8, and one of 2, in bins of 10 that cost 2
abbrev pub six_or_eight : InstanceValue
six_or_eight = record { dims = 1; types = record { cap = 10 ∷ []; cost = 2; limit = None } ∷ []; items = record { demand = 3; forms = (6 ∷ []) ∷ (8 ∷ []) ∷ [] } ∷ record { demand = 1; forms = (2 ∷ []) ∷ [] } ∷ []; caps = [] }

-- a bin that holds nothing
abbrev pub no_room : InstanceValue
no_room = record { dims = 1; types = record { cap = 0 ∷ []; cost = 1; limit = None } ∷ []; items = record { demand = 1; forms = (1 ∷ []) ∷ [] } ∷ []; caps = [] }

-- what the definitions say of them
pub record StepRowsComeOut : Type 0 where
  pub counts : map (stepped 10 4) (0 ∷ 3 ∷ 4 ∷ 6 ∷ 7 ∷ 10 ∷ 11 ∷ []) ≡ 0 ∷ 0 ∷ 4 ∷ 6 ∷ 10 ∷ 10 ∷ 10 ∷ []
  pub sixes : map (step_value_of three_units_of_six 1) (0 ∷ 4 ∷ 5 ∷ []) ≡ 2 ∷ 2 ∷ 3 ∷ []
  pub halves : map (step_value_of three_halves 1) (0 ∷ 1 ∷ []) ≡ 6 ∷ 6 ∷ []
  pub forms : map (step_value_of six_or_eight 1) (0 ∷ 3 ∷ 5 ∷ []) ≡ 4 ∷ 4 ∷ 6 ∷ []
  pub nothing : step_value_of no_room 1 0 ≡ 0
