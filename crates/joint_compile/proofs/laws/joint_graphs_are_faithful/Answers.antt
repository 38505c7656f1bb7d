use Rattle.joint_compile.proofs.FaithfulJoints.{joint_graphs_are_faithful}
use Rattle.joint_compile.proofs.laws.joint_graphs_are_faithful.Goals as goal

pub returns : goal.returns
returns c = joint_graphs_are_faithful c.joint_paths_fit.ensures c.joint_paths_cover.ensures c.extended_weights_tell_fits.ensures
