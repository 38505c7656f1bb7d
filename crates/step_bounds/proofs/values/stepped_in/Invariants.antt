-- What the units so far count for, and that there is room for the next.
use Rattle.std.proofs.Common.{◌≡◌, ◌≤◌, ◌-◌, ◌*◌, ◌^◌, map, sum_by, take, slice_index}
use Rattle.packing_laws.specs.Floors.{least_of}
use Rattle.step_bounds.specs.Steps.{stepped}
use Rattle.step_bounds.proofs.values.stepped_in.Given as goal

abbrev pub invariant-loop-item : goal.invariant-loop-item
invariant-loop-item l = record {
  sum : l.total ≡ sum_by (λ x. x.demand * least_of (map (λ v. stepped l.room l.step (slice_index v (l.dim - 1))) x.forms)) (take l.item-index l.item-items);
  small : l.total ≤ l.item-index * 2 ^ 52;
}
