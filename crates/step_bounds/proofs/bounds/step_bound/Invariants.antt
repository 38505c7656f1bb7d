-- The best of the dimensions so far.
use Rattle.std.proofs.Common.{◌-◌}
use Rattle.step_bounds.specs.inner.Looks.{IsBestTo}
use Rattle.step_bounds.proofs.bounds.step_bound.Given as goal

abbrev pub invariant-loop-dim : goal.invariant-loop-dim
invariant-loop-dim l = IsBestTo l.instance (l.dim - 1) l.best
