use Rattle.level_graph.proofs.Arcs.{ArcsSoFar}
use Rattle.level_graph.proofs.build.arcs_of.Given as goal

abbrev pub invariant-loop-index : goal.invariant-loop-index
invariant-loop-index g l = ArcsSoFar l.pieces l.cap l.states l.index l.arcs.items
