-- One more form, and all of them.
use Rattle.std.proofs.Common.{ℕ, ◌-◌, List, All, slice_index, subst, arith}
use Rattle.std.proofs.lemmas.List.{take_all}
use Rattle.packing_laws.specs.Instances.{InstanceValue}
use Rattle.step_bounds.specs.inner.Looks.{HasLooked}
use Rattle.step_bounds.proofs.Looked.{forms-more}
use Rattle.step_bounds.proofs.bounds.best_with_forms.Goals as goal

pub loop-form-preserved : goal.loop-form-preserved
loop-form-preserved c = record {
  improved = record { found = c.best_with_weight-best.ensures.improved.found; beats = λ L before. c.best_with_weight-best.ensures.improved.beats L (c.loop-form.invariant.improved.beats L before) };
  looked = forms-more c.args.instance.now c.args.dim c.loop-form.best c.best_with_weight-best.result c.best_with_weight-best.ensures.improved c.args.forms.now c.loop-form.form-index c.form-item.result c.as_slice.result.now c.loop-form-test.true c.form-item.is c.as_slice.ensures c.best_with_weight-best.ensures.looked c.loop-form.invariant.looked;
}

pub returns-clause-looked : goal.returns-clause-looked
returns-clause-looked c =
    let I : InstanceValue = c.args.instance.now in
    let d : ℕ = c.args.dim in
    subst (λ (vs : List (List ℕ)). All (λ v. HasLooked I d c.loop-form.best (slice_index v (d - 1))) vs) (take_all c.loop-form.form-index c.args.forms.now (omega arith)) c.loop-form.invariant.looked
