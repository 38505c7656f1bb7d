use Rattle.flow_model.proofs.RootBoxes.{flows_lie_in_root as in_root}
use Rattle.flow_model.proofs.laws.flows_lie_in_root.Goals as goal

pub returns : goal.returns
returns c = in_root
