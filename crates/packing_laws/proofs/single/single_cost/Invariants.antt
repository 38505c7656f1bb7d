-- The cost of the items so far, all of which fit some type without limit.
use Rattle.std.proofs.Common.{◌≡◌, ◌<◌, ◌≤◌, ◌*◌, ◌^◌, length, All, sum_by, take}
use Rattle.packing_laws.specs.Floors.{least_of, single_costs}
use Rattle.packing_laws.proofs.single.single_cost.Given as goal

abbrev pub invariant-loop-item : goal.invariant-loop-item
invariant-loop-item l = record {
  exists : All (λ x. 0 < x.demand → 0 < length (single_costs l.instance x)) (take l.item-index l.item-items);
  sum : l.total ≡ sum_by (λ x. x.demand * least_of (single_costs l.instance x)) (take l.item-index l.item-items);
  small : l.total ≤ l.item-index * 2 ^ 64;
}
