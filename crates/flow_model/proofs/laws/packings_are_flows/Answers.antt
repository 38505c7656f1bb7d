use Rattle.flow_model.proofs.PackedFlows.{packings_are_flows}
use Rattle.flow_model.proofs.laws.packings_are_flows.Goals as goal

pub returns : goal.returns
returns c = packings_are_flows
