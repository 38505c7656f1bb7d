-- Graphs with one source and a target for each type of bins. Nodes are numbered from 1: the source first, and the
-- targets last, in the order of types.
use Rattle.std.specs.Prelude.{◌≡◌, ℕ, ◌+◌, ◌-◌, ◌^◌, ◌≤◌, ◌<◌, List, [], All, AllPairs, length, slice_index, slice_index_or}
use Rattle.arc_num.specs.declared.TheConstants.{MAX_TYPES}
use Rattle.label_graph.specs.declared.parts.Piece.{Piece}
use Rattle.label_graph.specs.declared.parts.GraphArc.{GraphArc}
use Rattle.label_graph.specs.Graph.{ArcBefore, IsKnown, IsPath, weight_in}
use Rattle.weight_vec.specs.Weight.{AtMost, IsInRange, IsZero}

pub record JointValue (N : ℕ) : Type 0 where
  pub pieces : List (Piece N)
  pub caps : List (List ℕ)
  -- how many nodes are no targets
  pub inner : ℕ
  pub arcs : List GraphArc

-- types are numbered from 1
abbrev pub IsType : List (List ℕ) → ℕ → Type 0
IsType caps t = (1 ≤ t) × (t ≤ length caps)

-- the capacity of a type
abbrev pub cap_at : List (List ℕ) → ℕ → List ℕ
cap_at caps t = slice_index_or caps (t - 1) []

-- the weight fits some type
abbrev pub FitsSome : List (List ℕ) → List ℕ → Type 0
FitsSome caps weight = (t : ℕ) × IsType caps t × AtMost weight (cap_at caps t)

-- the target of a type
abbrev pub target_at : {N : ℕ} → JointValue N → ℕ → ℕ
target_at g t = g.inner + t

abbrev pub node_count : {N : ℕ} → JointValue N → ℕ
node_count g = g.inner + length g.caps

-- a node of the graph
abbrev pub IsNode : {N : ℕ} → JointValue N → ℕ → Type 0
IsNode g v = (1 ≤ v) × (v ≤ node_count g)

-- a node that is no target
abbrev pub IsInner : {N : ℕ} → JointValue N → ℕ → Type 0
IsInner g v = (1 ≤ v) × (v ≤ g.inner)

-- a path leads from the source to the node
abbrev pub IsReachable : {N : ℕ} → JointValue N → ℕ → Type 0
IsReachable g v = (path : List GraphArc) × IsPath g.arcs 1 v path

-- a path leads from the node to some target
abbrev pub HasWayOn : {N : ℕ} → JointValue N → ℕ → Type 0
HasWayOn g v = (t : ℕ) × IsType g.caps t × ((path : List GraphArc) × IsPath g.arcs v (target_at g t) path)

-- an arc leads up, from a node that is no target
pub record ClimbsIn {N : ℕ} (g : JointValue N) (e : GraphArc) : Type 0 where
  pub low : 1 ≤ e.tail
  pub from_inner : e.tail ≤ g.inner
  pub up : e.tail < e.head
  pub high : e.head ≤ node_count g

-- what a joint graph keeps: arcs in order that go up, and each node on a path from the source to a target. What such
-- a path weighs fits the type of its target
pub record IsJoint (N : ℕ) (g : JointValue N) : Type 0 where
  pub small : N ≤ 32
  pub source : 1 ≤ g.inner
  pub types : 1 ≤ length g.caps
  pub few_types : length g.caps ≤ MAX_TYPES
  pub few_nodes : g.inner < 2 ^ 63
  pub caps_ranged : All (λ l. IsInRange l) g.caps
  pub pieces_sized : All (λ q. length q.weight ≡ N) g.pieces
  pub heavy : All (λ q. IsZero q.weight → ⊥) g.pieces
  pub ordered : AllPairs ArcBefore g.arcs
  pub climbs : All (ClimbsIn g) g.arcs
  pub known : All (λ e. IsKnown g.pieces e.mark) g.arcs
  pub comes : (v : ℕ) → IsNode g v → IsReachable g v
  pub goes : (v : ℕ) → IsNode g v → HasWayOn g v
  pub fits : (t : ℕ) → IsType g.caps t → (path : List GraphArc) → IsPath g.arcs 1 (target_at g t) path → (d : ℕ) → weight_in g.pieces d path ≤ slice_index (cap_at g.caps t) d
