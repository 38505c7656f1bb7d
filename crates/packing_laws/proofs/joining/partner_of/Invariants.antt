-- No bin so far can be joined with this one.
use Rattle.std.proofs.Common.{All, take}
use Rattle.packing_laws.specs.inner.Joining.{AreApart}
use Rattle.packing_laws.proofs.joining.partner_of.Given as goal

abbrev pub invariant-loop-at : goal.invariant-loop-at
invariant-loop-at l = All (λ other. AreApart l.instance other l.bin) (take l.at l.bins)
