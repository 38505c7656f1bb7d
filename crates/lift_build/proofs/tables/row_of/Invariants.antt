use Rattle.std.proofs.Common.{◌≡◌, ℕ, ◌<◌, [], length, get_or}
use Rattle.lift_build.specs.inner.Tables.{MayBeNext}
use Rattle.lift_build.proofs.tables.row_of.Given as goal

abbrev pub invariant-loop-d : goal.invariant-loop-d
invariant-loop-d g l = record {
  count : length l.row.items ≡ l.d;
  each : (d : ℕ) → d < l.d → MayBeNext (get_or l.behind d []) (get_or l.piece.weight d 0) l.piece.copies (get_or l.row.items d []);
}
