use Rattle.std.proofs.Common.{◌≡◌, ◌≤◌, ◌-◌, ℕ, length, get_or}
use Rattle.lift_build.specs.inner.Moves.{MovesTo}
use Rattle.lift_build.proofs.mains.places_of.Given as goal

abbrev pub invariant-loop-label : goal.invariant-loop-label
invariant-loop-label g l = record {
  count : length l.places.items ≡ l.label-index;
  each : (v : ℕ) → 1 ≤ v → v ≤ l.label-index → MovesTo l.labels l.sorted v (get_or l.places.items (v - 1) 0);
}
