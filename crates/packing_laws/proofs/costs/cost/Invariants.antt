-- The cost of the bins so far, and that there is room for the next.
use Rattle.std.proofs.Common.{◌≡◌, ◌≤◌, ◌*◌, ◌^◌, sum_by, take}
use Rattle.packing_laws.specs.Packings.{cost_at}
use Rattle.packing_laws.proofs.costs.cost.Given as goal

abbrev pub invariant-loop-bin : goal.invariant-loop-bin
invariant-loop-bin l = record {
  sum : l.total ≡ sum_by (λ b. b.times * cost_at l.instance b.bin_type) (take l.bin-index l.bin-items);
  small : l.total ≤ l.bin-index * 2 ^ 63;
}
