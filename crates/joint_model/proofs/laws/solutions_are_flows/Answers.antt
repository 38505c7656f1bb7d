use Rattle.joint_model.proofs.Solutions.{solutions_are_flows}
use Rattle.joint_model.proofs.laws.solutions_are_flows.Goals as goal

pub returns : goal.returns
returns c = solutions_are_flows
