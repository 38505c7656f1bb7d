-- The bin is filled with pieces that are left.
use Rattle.first_fit.specs.inner.Fillings.{IsFilling}
use Rattle.first_fit.proofs.greedy.fill.Given as goal

abbrev pub invariant-loop-piece : goal.invariant-loop-piece
invariant-loop-piece l = IsFilling l.instance l.rest l.bin
