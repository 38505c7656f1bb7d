use Rattle.std.proofs.Common.{◌≤◌}
use Rattle.cert_checker.proofs.lines.leaf_count.Given as goal

abbrev pub invariant-loop-line : goal.invariant-loop-line
invariant-loop-line g l = l.count ≤ l.line-index
