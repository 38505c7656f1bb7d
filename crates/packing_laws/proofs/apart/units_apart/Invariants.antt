-- The bins so far hold the units of the items so far.
use Rattle.packing_laws.proofs.OneUnitBins.{AreApart}
use Rattle.packing_laws.proofs.apart.units_apart.Given as goal

abbrev pub invariant-loop-at : goal.invariant-loop-at
invariant-loop-at l = AreApart l.instance l.at l.bins.items
