-- The greatest floor so far, and where it was found.
use Rattle.std.proofs.Common.{◌-◌}
use Rattle.packing_laws.specs.inner.Offers.{IsGreatestOf}
use Rattle.packing_laws.proofs.sources.greatest_dim.Given as goal

abbrev pub invariant-loop-d : goal.invariant-loop-d
invariant-loop-d l = IsGreatestOf l.instance (l.d - 1) l.greatest l.dim
