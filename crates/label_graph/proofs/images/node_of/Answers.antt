use Rattle.label_graph.proofs.Numbering.{never_missing, found-node}
use Rattle.label_graph.proofs.images.node_of.Goals as goal

pub unreachable-requires : goal.unreachable-requires
unreachable-requires g c = never_missing c.args.numbers.now.keys c.args.label.now c.requires.there c.in-None.ensures.found

pub returns : goal.returns
returns g c = found-node c.args.numbers.now.keys c.args.label.now c.in-Some.index c.in-Some.ensures.index
