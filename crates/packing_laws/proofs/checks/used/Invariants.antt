-- The bins of the type so far, and that there is room for the next.
use Rattle.std.proofs.Common.{◌≡◌, ◌≤◌, ◌*◌, ◌^◌, ◌==◌, cond, sum_by, take}
use Rattle.packing_laws.proofs.checks.used.Given as goal

abbrev pub invariant-loop-bin : goal.invariant-loop-bin
invariant-loop-bin l = record {
  sum : l.total ≡ sum_by (λ b. b.times * cond (b.bin_type == l.t) 1 0) (take l.bin-index l.bins);
  small : l.total ≤ l.bin-index * 2 ^ 32;
}
