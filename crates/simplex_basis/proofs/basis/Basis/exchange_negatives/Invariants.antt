use Rattle.std.proofs.Common.{◌≡◌, length}
use Rattle.simplex_basis.specs.Standing.{SameFrame}
use Rattle.simplex_basis.proofs.basis.Basis.exchange_negatives.Given as goal

abbrev pub invariant-loop-row : goal.invariant-loop-row
invariant-loop-row g l = SameFrame l.fn.self l.self × (l.row-end ≡ length l.self.basics)
