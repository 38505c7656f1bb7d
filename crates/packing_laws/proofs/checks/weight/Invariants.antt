-- What the counts so far weigh, and that there is room for the next.
use Rattle.std.proofs.Common.{◌≡◌, ◌≤◌, ◌*◌, ◌^◌, take}
use Rattle.packing_laws.specs.Packings.{weight_in}
use Rattle.packing_laws.proofs.checks.weight.Given as goal

abbrev pub invariant-loop-count : goal.invariant-loop-count
invariant-loop-count l = record {
  sum : l.total ≡ weight_in l.instance l.d (take l.count-index l.counts);
  small : l.total ≤ l.count-index * 2 ^ 63;
}
