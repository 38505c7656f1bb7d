use Rattle.std.proofs.Common.{◌≤◌, length}
use Rattle.simplex_basis.proofs.inverse.gather.Given as goal

abbrev pub invariant-loop-row : goal.invariant-loop-row
invariant-loop-row l = l.count ≤ length l.factors
