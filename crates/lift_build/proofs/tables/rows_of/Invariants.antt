use Rattle.std.proofs.Common.{◌+◌, ◌-◌, length}
use Rattle.lift_build.specs.inner.Tables.{AreRows}
use Rattle.lift_build.proofs.tables.rows_of.Given as goal

abbrev pub invariant-loop-index : goal.invariant-loop-index
invariant-loop-index g l = AreRows l.pieces l.cap (length l.pieces - l.index + 1) l.rows.items
