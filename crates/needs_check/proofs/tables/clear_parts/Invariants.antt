use Rattle.std.proofs.Common.{drop}
use Rattle.needs_check.proofs.Laying.{HoldsFewParts}
use Rattle.needs_check.proofs.tables.clear_parts.Given as goal

abbrev pub invariant-loop-part : goal.invariant-loop-part
invariant-loop-part l = HoldsFewParts (drop l.part-index l.parts) l.table
