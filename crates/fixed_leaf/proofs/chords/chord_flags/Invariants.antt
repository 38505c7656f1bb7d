use Rattle.std.proofs.Common.{◌≡◌, map, not, take}
use Rattle.fixed_leaf.specs.declared.joints.Joint.{Joint}
use Rattle.fixed_leaf.proofs.chords.chord_flags.Given as goal

abbrev pub invariant-loop-joint : goal.invariant-loop-joint
invariant-loop-joint l = record {
  flags : l.flags ≡ map (λ j. not j.tree) (take l.joint-index l.joints);
}
