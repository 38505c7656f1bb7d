use Rattle.std.proofs.Common.{drop}
use Rattle.joint_graph.specs.inner.Passes.{AreWaysAlong}
use Rattle.joint_graph.proofs.onward.ways_on.Given as goal

abbrev pub invariant-loop-index : goal.invariant-loop-index
invariant-loop-index g l = AreWaysAlong l.graph l.t (drop l.index l.graph.arcs) l.ways.items
