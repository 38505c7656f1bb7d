-- The best of step 0 and of the steps of the items so far.
use Rattle.std.proofs.Common.{◌-◌, All, take, slice_index}
use Rattle.step_bounds.specs.inner.Looks.{IsFound, Beats, HasLooked}
use Rattle.step_bounds.proofs.bounds.best_in.Given as goal

abbrev pub invariant-loop-item : goal.invariant-loop-item
invariant-loop-item l = record {
  found : IsFound l.instance l.dim l.best;
  start : Beats l.instance l.dim 0 l.best;
  looked : All (λ x. All (λ v. HasLooked l.instance l.dim l.best (slice_index v (l.dim - 1))) x.forms) (take l.item-index l.item-items);
}
