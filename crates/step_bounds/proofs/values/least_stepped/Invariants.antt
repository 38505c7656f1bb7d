-- The least count so far, with those that are left.
use Rattle.std.proofs.Common.{◌-◌, ◌^◌, ◌<◌, map, drop, slice_index, IfSome}
use Rattle.packing_laws.proofs.LeftOver.{IsLeftOf}
use Rattle.step_bounds.specs.Steps.{stepped}
use Rattle.step_bounds.proofs.values.least_stepped.Given as goal

abbrev pub invariant-loop-form : goal.invariant-loop-form
invariant-loop-form l = record {
  left : IsLeftOf l.least (map (λ v. stepped l.room l.step (slice_index v (l.dim - 1))) (drop l.form-index l.forms)) (map (λ v. stepped l.room l.step (slice_index v (l.dim - 1))) l.forms);
  small : IfSome l.least (λ x. x < 2 ^ 32);
}
