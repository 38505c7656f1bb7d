use Rattle.joint_graph.specs.inner.Pushes.{Appends, IsEndBelow}
use Rattle.joint_graph.proofs.levels.push_ends.Given as goal

abbrev pub invariant-loop-t : goal.invariant-loop-t
invariant-loop-t g l = Appends l.fn.arcs.items l.arcs.items (IsEndBelow l.caps l.count l.index l.used l.t)
