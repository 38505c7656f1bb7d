use Rattle.std.proofs.Common.{◌≡◌, ◌+◌, ◌≤◌, ℕ, length, take, sum_by, slice_index}
use Rattle.flow_model.proofs.places.node_starts.Given as goal

abbrev pub invariant-loop-t : goal.invariant-loop-t
invariant-loop-t l = (l.nodes ≡ sum_by (λ x. x.nodes) (take l.t l.graph)) × (length l.starts.items ≡ l.t + 1) × ((k : ℕ) → k ≤ l.t → slice_index l.starts.items k ≡ sum_by (λ x. x.nodes) (take k l.graph))
