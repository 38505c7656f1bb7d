-- What the units so far weigh at least, and that there is room for the next.
use Rattle.std.proofs.Common.{◌≡◌, ◌≤◌, ◌-◌, ◌*◌, ◌^◌, map, sum_by, take, slice_index}
use Rattle.packing_laws.specs.Floors.{least_of}
use Rattle.packing_laws.proofs.floors.material_in.Given as goal

abbrev pub invariant-loop-item : goal.invariant-loop-item
invariant-loop-item l = record {
  sum : l.material ≡ sum_by (λ x. x.demand * least_of (map (λ v. slice_index v (l.d - 1)) x.forms)) (take l.item-index l.item-items);
  small : l.material ≤ l.item-index * 2 ^ 52;
}
