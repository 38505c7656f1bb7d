-- The main graph: nodes with the same room left by their heaviest ways on to the target become one.
use Rattle.std.specs.Prelude.{◌≡◌, ℕ, ◌+◌, ◌≤◌, ◌<◌, List, length, slice_index}
use Rattle.label_graph.specs.Graph.{GraphValue, label_of}
use Rattle.label_graph.specs.Heaviest.{IsGreatestWeight}
use Rattle.label_graph.specs.Images.{IsImage}

-- in dimension d the number is what the heaviest way from node v to the target leaves of the capacity
pub record IsRoomLeft {N : ℕ} (cap : List ℕ) (g : GraphValue N) (v d room : ℕ) : Type 0 where
  pub heaviest : ℕ
  pub greatest : IsGreatestWeight g v (length g.labels) d heaviest
  pub left : room + heaviest ≡ slice_index cap d

-- the label of node v from the target: the room left in each dimension
pub record IsTargetLabel {N : ℕ} (cap : List ℕ) (g : GraphValue N) (v : ℕ) (l : List ℕ) : Type 0 where
  pub sized : length l ≡ N
  pub left : (d : ℕ) → d < N → IsRoomLeft cap g v d (slice_index l d)

-- the labels of all nodes from the target
pub record AreTargetLabels {N : ℕ} (cap : List ℕ) (g : GraphValue N) (labels : List (List ℕ)) : Type 0 where
  pub count : length labels ≡ length g.labels
  pub each : (v : ℕ) → 1 ≤ v → v ≤ length g.labels → IsTargetLabel cap g v (label_of labels v)

-- the main graph: the image under the labels from the target
pub record IsMainGraph {N : ℕ} (cap : List ℕ) (g main : GraphValue N) : Type 0 where
  pub labels : List (List ℕ)
  pub from_target : AreTargetLabels cap g labels
  pub image : IsImage g labels main
