use Rattle.joint_model.proofs.Lawful.{models_are_programs}
use Rattle.joint_model.proofs.laws.joint_models_are_programs.Goals as goal

pub returns : goal.returns
returns c = models_are_programs
