-- The best of the steps of the forms so far.
use Rattle.std.proofs.Common.{◌-◌, All, take, slice_index}
use Rattle.step_bounds.specs.inner.Looks.{Improves, HasLooked}
use Rattle.step_bounds.proofs.bounds.best_with_forms.Given as goal

abbrev pub invariant-loop-form : goal.invariant-loop-form
invariant-loop-form l = record {
  improved : Improves l.instance l.dim l.initial.best l.best;
  looked : All (λ v. HasLooked l.instance l.dim l.best (slice_index v (l.dim - 1))) (take l.form-index l.forms);
}
