use Rattle.std.proofs.Common.{◌≡◌, map}
use Rattle.std.specs.List.{range_with_len}
use Rattle.workload.specs.Generated.{state_at, generated_item}
use Rattle.workload.proofs.items.items_of.Given as goal

abbrev pub invariant-loop : goal.invariant-loop
invariant-loop l = (l.state ≡ state_at l.seed l.counter) × (l.items.items ≡ map (generated_item l.seed) (range_with_len 1 l.counter))
