use Rattle.std.proofs.Common.{◌-◌, ◌∷◌}
use Rattle.flow_graph.specs.Arcs.{first_arc}
use Rattle.pattern_extract.specs.inner.Walks.{AreCursors, IsUsedUp}
use Rattle.pattern_extract.proofs.Steps.{IsWalked}
use Rattle.pattern_extract.proofs.walks.walk.Given as goal

abbrev pub invariant-loop-node : goal.invariant-loop-node
invariant-loop-node l = record {
  walked : IsWalked l.graph l.left l.t l.node l.times l.arcs.items;
  used : IsUsedUp l.left l.times (first_arc l.graph l.t ∷ l.arcs.items);
  cursors : AreCursors l.graph l.t l.left l.cursors;
}

abbrev pub decreases-loop-node : goal.decreases-loop-node
decreases-loop-node l = l.nodes - l.node
