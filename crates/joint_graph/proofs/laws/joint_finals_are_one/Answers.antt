use Rattle.joint_graph.proofs.FinalsOne.{finals_are_one}
use Rattle.joint_graph.proofs.laws.joint_finals_are_one.Goals as goal

pub returns : goal.returns
returns c = finals_are_one
