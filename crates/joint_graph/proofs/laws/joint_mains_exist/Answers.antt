use Rattle.joint_graph.proofs.MainsExist.{mains_exist}
use Rattle.joint_graph.proofs.laws.joint_mains_exist.Goals as goal

pub returns : goal.returns
returns c = mains_exist
