-- So often the bin can be used, as far as the items of the counts so far go.
use Rattle.std.proofs.Common.{◌≤◌, All, take}
use Rattle.first_fit.proofs.Repeats.{IsEnoughOf}
use Rattle.first_fit.proofs.greedy.repeats.Given as goal

abbrev pub invariant-loop-count : goal.invariant-loop-count
invariant-loop-count l = record {
  most : l.times ≤ l.most;
  units : All (IsEnoughOf l.rest l.counts l.times) (take l.count-index l.counts);
}
