use Rattle.std.proofs.Common.{◌≡◌, ◌≤◌, ◌⊎◌}
use Rattle.lift_build.specs.inner.Rooms.{IsFull}
use Rattle.lift_build.proofs.steps.copies_at.Given as goal

abbrev pub invariant-loop-d : goal.invariant-loop-d
invariant-loop-d g l = record {
  fewer : l.needed ≤ l.piece.copies;
  full : (l.needed ≡ l.piece.copies) ⊎ IsFull l.cap l.piece.weight l.needed l.used;
}
