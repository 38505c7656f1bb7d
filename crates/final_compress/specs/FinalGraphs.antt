-- The final graph: nodes to which equally heavy ways lead from the source become one.
use Rattle.std.specs.Prelude.{◌≡◌, ℕ, ◌≤◌, ◌<◌, List, length, slice_index}
use Rattle.label_graph.specs.Graph.{GraphValue, label_of}
use Rattle.label_graph.specs.Heaviest.{IsGreatestWeight}
use Rattle.label_graph.specs.Images.{IsImage}

-- the label of node v from the source: in each dimension the greatest weight of a path from the source to it
pub record IsSourceLabel {N : ℕ} (g : GraphValue N) (v : ℕ) (l : List ℕ) : Type 0 where
  pub sized : length l ≡ N
  pub greatest : (d : ℕ) → d < N → IsGreatestWeight g 1 v d (slice_index l d)

-- the labels of all nodes from the source
pub record AreSourceLabels {N : ℕ} (g : GraphValue N) (labels : List (List ℕ)) : Type 0 where
  pub count : length labels ≡ length g.labels
  pub each : (v : ℕ) → 1 ≤ v → v ≤ length g.labels → IsSourceLabel g v (label_of labels v)

-- the final graph: the image under the labels from the source
pub record IsFinalGraph {N : ℕ} (g final : GraphValue N) : Type 0 where
  pub labels : List (List ℕ)
  pub from_source : AreSourceLabels g labels
  pub image : IsImage g labels final
