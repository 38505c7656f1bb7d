use Rattle.std.proofs.Common.{◌≡◌, length}
use Rattle.flow_model.specs.Flows.{weigh_arcs}
use Rattle.joint_arcs.specs.Joined.{numbered}
use Rattle.joint_extract.specs.inner.Circuits.{AreCursors, AreDrawn}
use Rattle.joint_extract.proofs.bins.draw_type.Given as goal

abbrev pub invariant-loop-left : goal.invariant-loop-left
invariant-loop-left l = record {
  nodes : length l.cursors ≡ l.graph.inner;
  cursors : AreCursors l.graph l.left l.cursors;
  drawn : AreDrawn l.graph l.initial.left l.initial.bins.items l.left l.bins.items;
}

abbrev pub decreases-loop-left : goal.decreases-loop-left
decreases-loop-left l = weigh_arcs (λ kind. 1) (numbered l.graph) l.left
