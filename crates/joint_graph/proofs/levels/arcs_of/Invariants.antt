use Rattle.joint_graph.specs.inner.Pushes.{AreArcsBefore}
use Rattle.joint_graph.proofs.levels.arcs_of.Given as goal

abbrev pub invariant-loop-index : goal.invariant-loop-index
invariant-loop-index g l = AreArcsBefore l.pieces l.caps l.states l.index l.arcs.items
