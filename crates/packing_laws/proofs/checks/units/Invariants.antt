-- The units of the counts so far, and that there is room for the next.
use Rattle.std.proofs.Common.{◌≡◌, ◌≤◌, ◌*◌, ◌^◌, take}
use Rattle.packing_laws.specs.Packings.{count_of_item}
use Rattle.packing_laws.proofs.checks.units.Given as goal

abbrev pub invariant-loop-count : goal.invariant-loop-count
invariant-loop-count l = record {
  sum : l.total ≡ count_of_item l.i (take l.count-index l.counts);
  small : l.total ≤ l.count-index * 2 ^ 32;
}
