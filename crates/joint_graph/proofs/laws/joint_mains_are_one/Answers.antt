use Rattle.joint_graph.proofs.MainsOne.{mains_are_one}
use Rattle.joint_graph.proofs.laws.joint_mains_are_one.Goals as goal

pub returns : goal.returns
returns c = mains_are_one
