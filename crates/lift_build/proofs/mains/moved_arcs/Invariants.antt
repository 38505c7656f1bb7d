use Rattle.std.proofs.Common.{◌≡◌, map, take}
use Rattle.lift_build.specs.inner.Moves.{moved_arc}
use Rattle.lift_build.proofs.mains.moved_arcs.Given as goal

abbrev pub invariant-loop-arc : goal.invariant-loop-arc
invariant-loop-arc l = l.moved.items ≡ map (moved_arc l.places) (take l.arc-index l.arcs)
