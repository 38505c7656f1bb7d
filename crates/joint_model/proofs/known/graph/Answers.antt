use Rattle.joint_model.proofs.KnownArcs.{known_graph}
use Rattle.joint_model.proofs.known.graph.Goals as goal

pub returns : goal.returns
returns c = known_graph c.args.instance.now c.args.graph.now c.known.ensures c.known-2.ensures c.requires
