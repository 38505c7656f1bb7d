use Rattle.joint_graph.proofs.JointCovers.{joint_fits}
use Rattle.joint_graph.proofs.laws.joint_paths_fit.Goals as goal

pub returns : goal.returns
returns c = joint_fits
