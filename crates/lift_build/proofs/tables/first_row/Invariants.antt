use Rattle.std.proofs.Common.{◌≡◌, ℕ, ◌+◌, ◌<◌, [], length, get_or}
use Rattle.lift_build.specs.inner.Tables.{AreZeros}
use Rattle.lift_build.proofs.tables.first_row.Given as goal

abbrev pub invariant-loop-d : goal.invariant-loop-d
invariant-loop-d g l = record {
  count : length l.row.items ≡ l.d;
  each : (d : ℕ) → d < l.d → AreZeros (get_or l.cap d 0 + 1) (get_or l.row.items d []);
}
