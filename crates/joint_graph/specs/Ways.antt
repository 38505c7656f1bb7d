-- The heaviest ways of a joint graph: from a node on to a target, and from the source to a node. A place past the end
-- of a weight counts as 0.
use Rattle.std.specs.Prelude.{◌≡◌, ℕ, ◌≤◌, List, length, slice_index}
use Rattle.std.specs.declared.option.Option.{Option}
use Rattle.std.specs.declared.option.Option.TheVariants.{Some, None}
use Rattle.label_graph.specs.declared.parts.Piece.{Piece}
use Rattle.label_graph.specs.declared.parts.GraphArc.{GraphArc}
use Rattle.label_graph.specs.Graph.{IsPath, weight_in}
use Rattle.joint_graph.specs.Joints.{JointValue, target_at}

-- in dimension d, which counts from 0, some path from a to b weighs x, and none weighs more
pub record IsHeaviest {N : ℕ} (pieces : List (Piece N)) (arcs : List GraphArc) (a b d x : ℕ) : Type 0 where
  pub path : List GraphArc
  pub leads : IsPath arcs a b path
  pub weighs : weight_in pieces d path ≡ x
  pub most : (other : List GraphArc) → IsPath arcs a b other → weight_in pieces d other ≤ x

-- the greatest weights of the paths from a to b, place by place
pub record AreHeaviest {N : ℕ} (pieces : List (Piece N)) (arcs : List GraphArc) (a b : ℕ) (weights : List ℕ) : Type 0 where
  pub sized : length weights ≡ N
  pub each : (d : ℕ) → IsHeaviest pieces arcs a b d (slice_index weights d)

-- the greatest weights of the paths from a to b, if there are any
abbrev pub IsWay : {N : ℕ} → List (Piece N) → List GraphArc → ℕ → ℕ → Option (List ℕ) → Type 0
IsWay pieces arcs a b None = (path : List GraphArc) → IsPath arcs a b path → ⊥
IsWay pieces arcs a b (Some weights) = AreHeaviest pieces arcs a b weights

-- the greatest weights of the paths from node v to the target of type t, if there are any. What they leave of the
-- type's capacity is the room of the node for that type
abbrev pub IsWayOn : {N : ℕ} → JointValue N → ℕ → ℕ → Option (List ℕ) → Type 0
IsWayOn g t v way = IsWay g.pieces g.arcs v (target_at g t) way

-- two nodes have the same room for each of the first n types, or none
abbrev pub HaveSameRooms : {N : ℕ} → JointValue N → ℕ → ℕ → ℕ → Type 0
HaveSameRooms g n v w = (t : ℕ) → 1 ≤ t → t ≤ n → (way : Option (List ℕ)) × IsWayOn g t v way × IsWayOn g t w way

-- the greatest weights of the paths from the source to node v
abbrev pub IsWayTo : {N : ℕ} → JointValue N → ℕ → List ℕ → Type 0
IsWayTo g v weights = AreHeaviest g.pieces g.arcs 1 v weights

-- equally heavy ways lead to two nodes
abbrev pub HaveSameWeights : {N : ℕ} → JointValue N → ℕ → ℕ → Type 0
HaveSameWeights g v w = (weights : List ℕ) × IsWayTo g v weights × IsWayTo g w weights
