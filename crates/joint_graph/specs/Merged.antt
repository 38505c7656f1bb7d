-- Joint graphs whose nodes are merged. Targets stay apart from each other and from all other nodes.
use Rattle.std.specs.Prelude.{◌≡◌, ◌↔◌, ℕ, ◌+◌, ◌-◌, ◌<◌, ◌≤◌, List, AllPairs, Contains, length, slice_index}
use Rattle.weight_vec.specs.Weight.{Before}
use Rattle.label_graph.specs.declared.parts.GraphArc.{GraphArc}
use Rattle.label_graph.specs.Graph.{ArcBefore}
use Rattle.label_graph.specs.Images.{IsLossLoop}
use Rattle.joint_graph.specs.Joints.{JointValue, IsType, IsInner, target_at, node_count}
use Rattle.joint_graph.specs.Ways.{HaveSameRooms, HaveSameWeights, IsWayTo}

-- the node into which node v is merged
abbrev pub node_into : List ℕ → ℕ → ℕ
node_into into v = slice_index into (v - 1)

-- arc e becomes arc x: it carries the same between the nodes into which its ends are merged. A loss arc from a node to
-- itself is left out
pub record BecomesArc (into : List ℕ) (e x : GraphArc) : Type 0 where
  pub tail : x.tail ≡ node_into into e.tail
  pub head : x.head ≡ node_into into e.head
  pub mark : x.mark ≡ e.mark
  pub kept : IsLossLoop x → ⊥

-- into tells for each node of a graph the node into which it is merged, of so many that are no targets. The source stays
-- the source
pub record IsMerging {N : ℕ} (g : JointValue N) (into : List ℕ) (inner : ℕ) : Type 0 where
  pub count : length into ≡ node_count g
  pub first : node_into into 1 ≡ 1
  pub low : (v : ℕ) → IsInner g v → 1 ≤ node_into into v
  pub high : (v : ℕ) → IsInner g v → node_into into v ≤ inner
  pub targets : (t : ℕ) → IsType g.caps t → node_into into (target_at g t) ≡ inner + t
  pub onto : (w : ℕ) → 1 ≤ w → w ≤ inner → (v : ℕ) × IsInner g v × (node_into into v ≡ w)

-- these nodes that are no targets become one, and no others
abbrev pub Merges : {N : ℕ} → JointValue N → List ℕ → (ℕ → ℕ → Type 0) → Type 0
Merges g into Same = (v w : ℕ) → IsInner g v → IsInner g w → (node_into into v ≡ node_into into w) ↔ Same v w

-- the image of a graph whose nodes are merged: the distinct arcs that its arcs become
pub record IsImage {N : ℕ} (g : JointValue N) (into : List ℕ) (image : JointValue N) : Type 0 where
  pub pieces : image.pieces ≡ g.pieces
  pub caps : image.caps ≡ g.caps
  pub merging : IsMerging g into image.inner
  pub ordered : AllPairs ArcBefore image.arcs
  pub arcs : (x : GraphArc) → Contains image.arcs x ↔ ((e : GraphArc) × Contains g.arcs e × BecomesArc into e x)

-- the joint main graph: nodes with the same room for all types become one
pub record IsJointMain {N : ℕ} (g main : JointValue N) : Type 0 where
  pub into : List ℕ
  pub merges : Merges g into (HaveSameRooms g (length g.caps))
  pub image : IsImage g into main

-- the joint final graph: nodes to which equally heavy ways lead become one, and stand in the order of these weights
pub record IsJointFinal {N : ℕ} (main final : JointValue N) : Type 0 where
  pub into : List ℕ
  pub merges : Merges main into (HaveSameWeights main)
  pub sorted : (v w : ℕ) (lighter heavier : List ℕ) → IsInner main v → IsInner main w → IsWayTo main v lighter → IsWayTo main w heavier → Before lighter heavier → node_into into v < node_into into w
  pub image : IsImage main into final
