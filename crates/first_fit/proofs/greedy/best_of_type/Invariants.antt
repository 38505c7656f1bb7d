-- The best bin so far.
use Rattle.std.proofs.Common.{IfSome}
use Rattle.first_fit.specs.inner.Fillings.{IsFilling}
use Rattle.first_fit.proofs.greedy.best_of_type.Given as goal

abbrev pub invariant-loop-skipped : goal.invariant-loop-skipped
invariant-loop-skipped l = IfSome l.best (IsFilling l.instance l.rest)
