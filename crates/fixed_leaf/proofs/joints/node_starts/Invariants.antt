use Rattle.std.proofs.Common.{◌≡◌, ◌+◌, ◌≤◌, ℕ, length, take, sum_by, slice_index}
use Rattle.fixed_leaf.proofs.joints.node_starts.Given as goal

abbrev pub invariant-loop-t : goal.invariant-loop-t
invariant-loop-t l = record {
  nodes : l.nodes ≡ sum_by (λ x. x.nodes) (take l.t l.graph);
  size : length l.starts.items ≡ l.t + 1;
  each : (k : ℕ) → k ≤ l.t → slice_index l.starts.items k ≡ sum_by (λ x. x.nodes) (take k l.graph);
}
