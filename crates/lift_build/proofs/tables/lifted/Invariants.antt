use Rattle.std.proofs.Common.{◌≡◌, ℕ, ◌<◌, [], length, get_or}
use Rattle.lift_build.specs.inner.Tables.{IsLiftAt}
use Rattle.lift_build.proofs.tables.lifted.Given as goal

abbrev pub invariant-loop-d : goal.invariant-loop-d
invariant-loop-d g l = record {
  sized : length l.parts ≡ g.row.N;
  each : (d : ℕ) → d < l.d → IsLiftAt (get_or l.row d []) (get_or l.cap d 0) (get_or l.used d 0) (get_or l.parts d 0);
}
