use Rattle.joint_graph.proofs.JointCovers.{joint_covers}
use Rattle.joint_graph.proofs.laws.joint_paths_cover.Goals as goal

pub returns : goal.returns
returns c = joint_covers
