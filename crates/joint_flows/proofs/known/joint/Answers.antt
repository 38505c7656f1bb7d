use Rattle.joint_flows.proofs.JointKnown.{known_joint}
use Rattle.joint_flows.proofs.known.joint.Goals as goal

pub returns : goal.returns
returns c = known_joint c.args.instance.now c.args.graph.now c.known.ensures c.known-2.ensures c.requires
