use Rattle.std.proofs.Common.{◌≡◌, ℕ, pos, ◌≤ℤ◌}
use Rattle.packing_laws.specs.Instances.{IsAmong}
use Rattle.flow_graph.specs.Balance.{value_of}
use Rattle.flow_graph.specs.Chords.{range_at}
use Rattle.fixed_leaf.proofs.faults.first_below.Given as goal

abbrev pub invariant-loop-value : goal.invariant-loop-value
invariant-loop-value l = (l.arc ≡ l.value-index) × ((a : ℕ) → IsAmong a l.value-index → pos (range_at l.ranges a).0 ≤ℤ value_of l.values a)
