use Rattle.joint_compile.proofs.OneJoint.{joint_graph_is_one}
use Rattle.joint_compile.proofs.laws.joint_graph_is_one.Goals as goal

pub returns : goal.returns
returns c = joint_graph_is_one c.joint_finals_are_one.ensures
