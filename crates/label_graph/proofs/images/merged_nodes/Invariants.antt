use Rattle.std.proofs.Common.{◌≡◌, ◌<◌, ◌+◌, ℕ, length, get_or}
use Rattle.label_graph.specs.Images.{IsMergedInto}
use Rattle.label_graph.proofs.images.merged_nodes.Given as goal

abbrev pub invariant-loop-label : goal.invariant-loop-label
invariant-loop-label g l = record {
  count : length l.nodes.items ≡ l.label-index;
  each : (k : ℕ) → k < l.label-index → IsMergedInto l.labels l.numbers.keys (k + 1) (get_or l.nodes.items k 0);
}
