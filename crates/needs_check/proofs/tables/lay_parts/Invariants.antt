use Rattle.std.proofs.Common.{drop}
use Rattle.needs_check.specs.inner.Laid.{HoldsParts}
use Rattle.needs_check.proofs.tables.lay_parts.Given as goal

abbrev pub invariant-loop-index : goal.invariant-loop-index
invariant-loop-index l = HoldsParts (drop l.index l.parts) l.table
