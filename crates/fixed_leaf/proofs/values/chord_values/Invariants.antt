use Rattle.std.proofs.Common.{◌≡◌}
use Rattle.fixed_leaf.proofs.ChordValues.{AreChordsTo}
use Rattle.fixed_leaf.proofs.values.chord_values.Given as goal

abbrev pub invariant-loop-joint : goal.invariant-loop-joint
invariant-loop-joint l = (l.arc ≡ l.joint-index) × AreChordsTo l.joints l.ranges l.joint-index l.values.items
