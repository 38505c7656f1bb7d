-- What is still wanted.
use Rattle.std.proofs.Common.{◌≡◌, ◌+◌, ◌*◌, sum_by, take}
use Rattle.packing_laws.specs.Packings.{count_of_item}
use Rattle.packing_laws.proofs.checks.meets_demand.Given as goal

abbrev pub invariant-loop-bin : goal.invariant-loop-bin
invariant-loop-bin l = sum_by (λ b. b.times * count_of_item l.i b.counts) (take l.bin-index l.bins) + l.wanted ≡ l.demand
