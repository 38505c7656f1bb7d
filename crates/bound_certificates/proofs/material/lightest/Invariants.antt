-- The least weight so far, with those that are left.
use Rattle.std.proofs.Common.{◌-◌, map, drop, slice_index}
use Rattle.packing_laws.proofs.LeftOver.{IsLeftOf}
use Rattle.bound_certificates.proofs.material.lightest.Given as goal

abbrev pub invariant-loop-form : goal.invariant-loop-form
invariant-loop-form l = IsLeftOf l.least (map (λ v. slice_index v (l.dim - 1)) (drop l.form-index l.forms)) (map (λ v. slice_index v (l.dim - 1)) l.forms)
