-- The law stands among the lemmas.
use Rattle.step_bounds.proofs.StepLaw.{step_value-floor}
use Rattle.step_bounds.proofs.laws.step_values_are_floors.Goals as goal

pub returns : goal.returns
returns c = step_value-floor
