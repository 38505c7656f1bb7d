-- What is kept of the counts so far.
use Rattle.std.proofs.Common.{◌≡◌, take, filter, nat_lt}
use Rattle.packing_laws.proofs.tidying.positive_counts.Given as goal

abbrev pub invariant-loop-count : goal.invariant-loop-count
invariant-loop-count l = l.kept.items ≡ filter (λ n. nat_lt 0 n.count) (take l.count-index l.counts)
