use Rattle.simplex_basis.specs.Standing.{SameFrame}
use Rattle.simplex_basis.proofs.basis.Basis.rebuild.Given as goal

abbrev pub invariant-loop-next : goal.invariant-loop-next
invariant-loop-next g l = SameFrame l.fn.self l.self
