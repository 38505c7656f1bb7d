use Rattle.std.proofs.Common.{◌≡◌, ◌-◌, ◌<◌, ℕ, [], length, get_or}
use Rattle.packing_laws.specs.Instances.{IsAmong}
use Rattle.joint_extract.specs.inner.Circuits.{AreCursors, AreDrawn}
use Rattle.joint_extract.proofs.bins.flow_bins.Given as goal

abbrev pub invariant-loop-t : goal.invariant-loop-t
invariant-loop-t l = record {
  nodes : length l.cursors ≡ l.graph.inner;
  cursors : AreCursors l.graph l.left l.cursors;
  drawn : AreDrawn l.graph l.values [] l.left l.bins.items;
  none : (s : ℕ) → IsAmong s l.graph.types → s < l.t → get_or l.left (s - 1) 0 ≡ 0;
}
