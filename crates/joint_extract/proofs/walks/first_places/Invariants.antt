use Rattle.std.proofs.Common.{◌≡◌, length}
use Rattle.joint_extract.proofs.Cursors.{AreFirst}
use Rattle.joint_extract.proofs.walks.first_places.Given as goal

abbrev pub invariant-loop-place : goal.invariant-loop-place
invariant-loop-place l = record {
  nodes : length l.places.items ≡ l.graph.inner;
  first : AreFirst l.graph l.places.items l.place;
}
