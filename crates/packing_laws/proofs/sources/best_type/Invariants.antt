-- The best offer so far.
use Rattle.packing_laws.specs.inner.Offers.{AreOffers}
use Rattle.packing_laws.proofs.sources.best_type.Given as goal

abbrev pub invariant-loop-at : goal.invariant-loop-at
invariant-loop-at l = AreOffers l.instance l.d l.at l.best
