use Rattle.std.proofs.Common.{◌≡◌, ◌≤◌, take}
use Rattle.arc_program.specs.Reports.{plain_in}
use Rattle.arc_program.proofs.outcomes.plain_count.Given as goal

abbrev pub invariant-loop-line : goal.invariant-loop-line
invariant-loop-line l = (l.count ≡ plain_in (take l.line-index l.lines)) × (l.count ≤ l.line-index)
