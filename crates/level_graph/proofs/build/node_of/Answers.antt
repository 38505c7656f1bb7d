use Rattle.level_graph.proofs.Search.{never_missed, found_node}
use Rattle.level_graph.proofs.build.node_of.Goals as goal

pub unreachable-requires : goal.unreachable-requires
unreachable-requires g c = never_missed c.args.states.now c.args.wanted.now c.in-Err.field-0 c.requires.ordered c.requires.there c.in-Err.ensures.position

pub returns : goal.returns
returns g c = found_node c.args.states.now c.args.wanted.now c.in-Ok.index c.in-Ok.ensures.bound c.in-Ok.ensures.ok
