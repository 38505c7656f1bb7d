-- The demands so far, added up, and that there is room for the next.
use Rattle.std.proofs.Common.{◌≡◌, ◌≤◌, ◌*◌, sum_by, take}
use Rattle.packing_laws.proofs.instances.Instance.units.Given as goal

abbrev pub invariant-loop-item : goal.invariant-loop-item
invariant-loop-item l = record {
  sum : l.units ≡ sum_by (λ x. x.demand) (take l.item-index l.self.items);
  small : l.units ≤ l.item-index * 1000000;
}
