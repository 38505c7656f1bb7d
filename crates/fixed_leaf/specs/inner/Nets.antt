-- Arcs between nodes that stand in one row, values of arcs, and what they leave over at nodes. Places count from 0.
use Rattle.std.specs.Prelude.{◌≡◌, ◌≢◌, ℕ, suc, ◌+◌, ◌<◌, ◌≤◌, ◌^◌, Bool, true, false, not, ◌==◌, ◌||◌, if◌then◌else◌, ℤ, pos, ◌+ℤ◌, ◌-ℤ◌, ◌*ℤ◌, unsigned_abs, List, [], ◌∷◌, Some, All, length, sum_by, slice_get, slice_index_or, slice_set}
use Rattle.flow_graph.specs.declared.parts.ArcKind.{ArcKind}
use Rattle.flow_graph.specs.declared.parts.ArcKind.TheVariants.{Bin, Loss, Piece}
use Rattle.flow_graph.specs.Arcs.{TypeValue, flow_type, numbered}
use Rattle.flow_graph.specs.Chords.{is_tree, range_at}
use Rattle.flow_model.specs.Models.{node_place}
use Rattle.flow_model.specs.inner.Sums.{head_in, tail_in}
use Rattle.fixed_leaf.specs.declared.joints.Joint.{Joint}
use Rattle.fixed_leaf.specs.declared.joints.Net.{Net}

-- a joint where there is none
abbrev pub no_joint : Joint
no_joint = record { tail = 0; head = 0; tree = false }

-- the joint at a place
abbrev pub joint_at : List Joint → ℕ → Joint
joint_at joints k = slice_index_or joints k no_joint

-- the place, from 1, of the node that an arc goes out of
abbrev pub tail_place : List TypeValue → ArcKind → ℕ
tail_place g (Bin t) = node_place g t (flow_type g t).nodes
tail_place g (Loss t tail head) = node_place g t tail
tail_place g (Piece t tail head item form) = node_place g t tail

-- the place, from 1, of the node that an arc comes into
abbrev pub head_place : List TypeValue → ArcKind → ℕ
head_place g (Bin t) = node_place g t 1
head_place g (Loss t tail head) = node_place g t head
head_place g (Piece t tail head item form) = node_place g t head

-- the joint is that of the arc with number a
pub record IsJointOf (g : List TypeValue) (a : ℕ) (kind : ArcKind) (joint : Joint) : Type 0 where
  pub tail : joint.tail + 1 ≡ tail_place g kind
  pub head : joint.head + 1 ≡ head_place g kind
  pub tree : joint.tree ≡ is_tree g a

-- the joints are those of the arcs of a graph
pub record AreJoints (g : List TypeValue) (joints : List Joint) : Type 0 where
  pub size : length joints ≡ length (numbered g)
  pub each : (k : ℕ) (kind : ArcKind) → slice_get (numbered g) k ≡ Some kind → IsJointOf g (suc k) kind (joint_at joints k)

-- the net is that of a graph
pub record IsNetOf (g : List TypeValue) (net : Net) : Type 0 where
  pub nodes : net.nodes ≡ sum_by (λ x. x.nodes) g
  pub joints : AreJoints g net.joints

-- the arc, if it is no bin arc, comes into the node at a place
abbrev pub ends_at : List ℕ → ℕ → ArcKind → Bool
ends_at starts p (Bin t) = false
ends_at starts p (Loss t tail head) = head_in starts (Loss t tail head) == p + 1
ends_at starts p (Piece t tail head item form) = head_in starts (Piece t tail head item form) == p + 1

-- an arc that is no bin arc is a tree arc where its head is not reached before
abbrev pub tree_after : List Bool → ArcKind → ℕ → Bool
tree_after reached (Bin t) head = false
tree_after reached (Loss t tail last) head = not (slice_index_or reached head false)
tree_after reached (Piece t tail last item form) head = not (slice_index_or reached head false)

-- the joint is that of an arc before which these nodes are reached
pub record IsJointAt (starts : List ℕ) (kind : ArcKind) (reached : List Bool) (joint : Joint) : Type 0 where
  pub tail : joint.tail + 1 ≡ tail_in starts kind
  pub head : joint.head + 1 ≡ head_in starts kind
  pub tree : joint.tree ≡ tree_after reached kind joint.head

-- the nodes that are reached, with that which an arc comes into
pub record Reaches (starts : List ℕ) (kind : ArcKind) (old new : List Bool) : Type 0 where
  pub size : length new ≡ length old
  pub each : (p : ℕ) → slice_index_or new p false ≡ (slice_index_or old p false || ends_at starts p kind)

-- joints between n nodes: no tree arc comes into a node that it or an earlier tree arc goes out of, nor do two into one node
pub record IsForest (n : ℕ) (joints : List Joint) : Type 0 where
  pub tails : All (λ j. j.tail < n) joints
  pub heads : All (λ j. j.head < n) joints
  pub apart : (i j : ℕ) → i ≤ j → j < length joints → (joint_at joints i).tree ≡ true → (joint_at joints j).tree ≡ true → (joint_at joints i).tail ≢ (joint_at joints j).head
  pub single : (i j : ℕ) → i < j → j < length joints → (joint_at joints i).tree ≡ true → (joint_at joints j).tree ≡ true → (joint_at joints i).head ≢ (joint_at joints j).head

-- 1 where the places are the same
abbrev pub unit_at : ℕ → ℕ → ℤ
unit_at q p = if q == p then pos 1 else pos 0

-- how often an arc goes away from the node at a place
abbrev pub away : ℕ → Joint → ℤ
away p j = unit_at j.tail p -ℤ unit_at j.head p

-- by how much more goes away from a node than comes into it
abbrev pub excess_at : ℕ → List Joint → List ℤ → ℤ
excess_at p [] values = pos 0
excess_at p (j ∷ joints) [] = pos 0
excess_at p (j ∷ joints) (x ∷ values) = (away p j *ℤ x) +ℤ excess_at p joints values

-- a table with more at one place
abbrev pub raised : List ℤ → ℕ → ℤ → List ℤ
raised table p x = slice_set table p (slice_index_or table p (pos 0) +ℤ x)

-- a table with less at one place
abbrev pub lowered : List ℤ → ℕ → ℤ → List ℤ
lowered table p x = slice_set table p (slice_index_or table p (pos 0) -ℤ x)

-- the excess of the nodes, with so much more on an arc
abbrev pub shifted : List ℤ → Joint → ℤ → List ℤ
shifted table j x = raised (lowered table j.head x) j.tail x

-- how large all numbers of a table are together
abbrev pub size_of : List ℤ → ℕ
size_of table = sum_by unsigned_abs table

-- the table holds the excess of the nodes
abbrev pub HoldsExcess : List Joint → List ℤ → List ℤ → Type 0
HoldsExcess joints values table = (p : ℕ) → p < length table → slice_index_or table p (pos 0) ≡ excess_at p joints values

-- each chord has the value of its range, and each tree arc has none yet
pub record AreChordValues (joints : List Joint) (ranges : List (ℕ × ℕ)) (values : List ℤ) : Type 0 where
  pub size : length values ≡ length joints
  pub chords : (k : ℕ) → k < length joints → (joint_at joints k).tree ≡ false → slice_index_or values k (pos 0) ≡ pos (range_at ranges (suc k)).0
  pub trees : (k : ℕ) → k < length joints → (joint_at joints k).tree ≡ true → slice_index_or values k (pos 0) ≡ pos 0
  pub small : (k : ℕ) → unsigned_abs (slice_index_or values k (pos 0)) ≤ 2 ^ 32

-- each chord has the value of its range, and where a tree arc comes into a node as much comes in as goes away
pub record AreSettled (joints : List Joint) (ranges : List (ℕ × ℕ)) (values : List ℤ) : Type 0 where
  pub size : length values ≡ length joints
  pub chords : (k : ℕ) → k < length joints → (joint_at joints k).tree ≡ false → slice_index_or values k (pos 0) ≡ pos (range_at ranges (suc k)).0
  pub trees : (k : ℕ) → k < length joints → (joint_at joints k).tree ≡ true → excess_at (joint_at joints k).head joints values ≡ pos 0
