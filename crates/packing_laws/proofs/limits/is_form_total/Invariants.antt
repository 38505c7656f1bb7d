-- What is left of the limit.
use Rattle.std.proofs.Common.{◌≡◌, ◌+◌, length, sum_by, take}
use Rattle.arc_num.specs.declared.TheConstants.{MAX_ALL_FORMS}
use Rattle.packing_laws.proofs.limits.is_form_total.Given as goal

abbrev pub invariant-loop-item : goal.invariant-loop-item
invariant-loop-item l = sum_by (λ x. length x.forms) (take l.item-index l.items) + l.room ≡ MAX_ALL_FORMS
