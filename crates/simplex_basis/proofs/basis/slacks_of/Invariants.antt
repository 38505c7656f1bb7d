use Rattle.std.proofs.Common.{◌≡◌, length}
use Rattle.simplex_basis.proofs.basis.slacks_of.Given as goal

abbrev pub invariant-loop-row : goal.invariant-loop-row
invariant-loop-row l = length l.basics.items ≡ l.row
