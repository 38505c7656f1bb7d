-- The least weight so far, with those that are left.
use Rattle.std.proofs.Common.{◌-◌, ◌^◌, ◌<◌, map, drop, slice_index, IfSome}
use Rattle.packing_laws.proofs.LeftOver.{IsLeftOf}
use Rattle.packing_laws.proofs.floors.least_weight.Given as goal

abbrev pub invariant-loop-form : goal.invariant-loop-form
invariant-loop-form l = record {
  left : IsLeftOf l.least (map (λ v. slice_index v (l.d - 1)) (drop l.form-index l.forms)) (map (λ v. slice_index v (l.d - 1)) l.forms);
  small : IfSome l.least (λ x. x < 2 ^ 32);
}
