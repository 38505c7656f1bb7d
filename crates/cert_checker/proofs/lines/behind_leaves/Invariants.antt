use Rattle.std.proofs.Common.{◌≤◌}
use Rattle.cert_checker.proofs.lines.behind_leaves.Given as goal

abbrev pub invariant-loop-index : goal.invariant-loop-index
invariant-loop-index g l = l.seen ≤ l.index
