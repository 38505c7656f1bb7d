use Rattle.flow_model.proofs.Lawful.{models_are_programs}
use Rattle.flow_model.proofs.laws.models_are_programs.Goals as goal

pub returns : goal.returns
returns c = models_are_programs
