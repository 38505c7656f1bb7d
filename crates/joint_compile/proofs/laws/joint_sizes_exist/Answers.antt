use Rattle.joint_compile.proofs.JointsExist.{joint_sizes_exist}
use Rattle.joint_compile.proofs.laws.joint_sizes_exist.Goals as goal

pub returns : goal.returns
returns c = joint_sizes_exist c.joint_mains_exist.ensures
