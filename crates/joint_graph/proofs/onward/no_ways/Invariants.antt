use Rattle.std.proofs.Common.{◌≡◌, ℕ, None, length, get_or}
use Rattle.joint_graph.proofs.onward.no_ways.Given as goal

abbrev pub invariant-loop-index : goal.invariant-loop-index
invariant-loop-index g l = record {
  count : length l.ways.items ≡ l._index;
  each : (k : ℕ) → get_or l.ways.items k None ≡ None;
}
