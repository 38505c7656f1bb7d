use Rattle.flow_model.proofs.NodePlaces.{all_placed}
use Rattle.flow_model.proofs.known.places.Goals as goal

pub returns : goal.returns
returns c = all_placed c.args.instance.now c.args.graph.now c.args.tally.now c.graph.ensures c.requires.tally
