use Rattle.joint_flows.proofs.PackedFlows.{packings_are_flows}
use Rattle.joint_flows.proofs.laws.packings_are_flows.Goals as goal

pub returns : goal.returns
returns c = packings_are_flows
