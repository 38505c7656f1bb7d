use Rattle.flow_model.proofs.SignedFlows.{conserved_is_balanced as balanced}
use Rattle.flow_model.proofs.laws.conserved_is_balanced.Goals as goal

pub returns : goal.returns
returns c = balanced
