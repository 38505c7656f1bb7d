-- The arcs of a joint graph in one row: one source, and a target for each type of bins. Nodes, types and arcs are numbered
-- from 1; the source is node 1, and the targets are the last nodes, in the order of types.
use Rattle.std.specs.Prelude.{◌≡◌, ◌↔◌, ℕ, ◌+◌, ◌-◌, ◌≤◌, ◌<◌, ◌==◌, if◌then◌else◌, List, ◌++◌, Option, None, All, AllPairs, Contains, length, map, slice_get}
use Rattle.arc_num.specs.declared.TheConstants.{MAX_TYPES, MAX_ARCS, MAX_NUMBERED}
use Rattle.flow_graph.specs.declared.parts.TypeArc.{TypeArc}
use Rattle.flow_graph.specs.declared.parts.ArcKind.{ArcKind}
use Rattle.flow_graph.specs.declared.parts.ArcKind.TheVariants.{Bin, Loss, Piece}
use Rattle.flow_graph.specs.Arcs.{ArcBefore, kind_of}
use Rattle.flow_model.specs.Flows.{up_to}

pub record JointValue : Type 0 where
  -- how many nodes are no targets
  pub inner : ℕ
  pub types : ℕ
  -- the arcs but for the bin arcs
  pub arcs : List TypeArc

-- the target of a type
abbrev pub target_at : JointValue → ℕ → ℕ
target_at g t = g.inner + t

abbrev pub node_count : JointValue → ℕ
node_count g = g.inner + g.types

-- an arc leads up, from a node that is no target
pub record Climbs (g : JointValue) (e : TypeArc) : Type 0 where
  pub low : 1 ≤ e.tail
  pub from_inner : e.tail ≤ g.inner
  pub up : e.tail < e.head
  pub high : e.head ≤ node_count g

-- what a joint graph keeps: arcs in order that go up, a way on from each node that is no target, and one to each node but
-- the source
pub record IsJoint (g : JointValue) : Type 0 where
  pub source : 1 ≤ g.inner
  pub types : 1 ≤ g.types
  pub few_types : g.types ≤ MAX_TYPES
  pub few_nodes : node_count g ≤ MAX_NUMBERED
  pub few_arcs : length g.arcs ≤ MAX_ARCS
  pub ordered : AllPairs ArcBefore g.arcs
  pub climbs : All (Climbs g) g.arcs
  pub marks : All (λ e. (e.item ≡ 0) ↔ (e.form ≡ 0)) g.arcs
  pub leaves : (v : ℕ) → 1 ≤ v → v ≤ g.inner → (e : TypeArc) × Contains g.arcs e × (e.tail ≡ v)
  pub enters : (v : ℕ) → 1 < v → v ≤ node_count g → (e : TypeArc) × Contains g.arcs e × (e.head ≡ v)

-- the arcs in one row: the bin arcs come first, by type. All types have the same nodes, so the other arcs stand as those of
-- type 1
abbrev pub numbered : JointValue → List ArcKind
numbered g = map (λ t. Bin t) (up_to g.types) ++ map (kind_of 1) g.arcs

-- the arc with number a, if there is one
abbrev pub arc_at : JointValue → ℕ → Option ArcKind
arc_at g a = if a == 0 then None else slice_get (numbered g) (a - 1)

-- the node that an arc goes out of; a bin arc goes out of the target of its type
abbrev pub tail_of : JointValue → ArcKind → ℕ
tail_of g (Bin t) = target_at g t
tail_of g (Loss t tail head) = tail
tail_of g (Piece t tail head item form) = tail

-- the node that an arc comes into; each bin arc comes into the source
abbrev pub head_of : ArcKind → ℕ
head_of (Bin t) = 1
head_of (Loss t tail head) = head
head_of (Piece t tail head item form) = head

-- an arc of the row with its two nodes, and what it carries
abbrev pub arc_of : JointValue → ArcKind → TypeArc
arc_of g (Bin t) = record { tail = target_at g t; head = 1; item = 0; form = 0 }
arc_of g (Loss t tail head) = record { tail = tail; head = head; item = 0; form = 0 }
arc_of g (Piece t tail head item form) = record { tail = tail; head = head; item = item; form = form }
