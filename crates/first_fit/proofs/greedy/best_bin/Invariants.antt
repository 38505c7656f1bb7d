-- The best bin so far.
use Rattle.std.proofs.Common.{IfSome}
use Rattle.first_fit.specs.inner.Fillings.{IsFilling}
use Rattle.first_fit.proofs.greedy.best_bin.Given as goal

abbrev pub invariant-loop-at : goal.invariant-loop-at
invariant-loop-at l = IfSome l.best (IsFilling l.instance l.rest)
