use Rattle.std.proofs.Common.{◌≡◌, ℕ, length, get_or, ◌<◌}
use Rattle.joint_graph.specs.Numbers.{IsNumber}
use Rattle.joint_graph.proofs.ranks.numbers_in.Given as goal

abbrev pub invariant-loop-index : goal.invariant-loop-index
invariant-loop-index g l = record {
  count : length l.numbers.items ≡ l.index;
  each : (i : ℕ) (d : g.row.T.Denot) → i < l.index → IsNumber l.distinct (get_or l.numbers.items i 0) (get_or l.labels i d);
}
