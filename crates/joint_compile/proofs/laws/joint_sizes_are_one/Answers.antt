use Rattle.joint_compile.proofs.OneJoint.{joint_sizes_are_one}
use Rattle.joint_compile.proofs.laws.joint_sizes_are_one.Goals as goal

pub returns : goal.returns
returns c = joint_sizes_are_one c.joint_mains_are_one.ensures
