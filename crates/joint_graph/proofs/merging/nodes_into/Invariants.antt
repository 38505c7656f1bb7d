use Rattle.joint_graph.specs.inner.Ranks.{IsInto}
use Rattle.joint_graph.proofs.merging.nodes_into.Given as goal

abbrev pub invariant-loop-t : goal.invariant-loop-t
invariant-loop-t l = IsInto l.ranked.numbers.items l.ranked.count l.t l.into.items
