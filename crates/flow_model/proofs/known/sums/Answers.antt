use Rattle.flow_model.proofs.NodePlaces.{filled}
use Rattle.flow_model.proofs.known.sums.Goals as goal

pub returns : goal.returns
returns c = filled c.args.instance.now c.args.graph.now c.args.flow.now.values c.args.tally.now c.known.ensures c.known-2.ensures c.requires.graph c.requires.tally c.requires.sums
