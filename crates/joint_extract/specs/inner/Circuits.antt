-- Circuits over arcs on which something is left: from the source to the target of a type, and back by the type's bin arc.
-- Arcs are numbered from 1, and their places in the row count from 0.
use Rattle.std.specs.Prelude.{◌≡◌, ℕ, ◌+◌, ◌-◌, ◌<◌, ◌≤◌, List, Some, All, map, sum_by, slice_get, slice_index}
use Rattle.packing_laws.specs.declared.packings.Bin.{Bin as Alike}
use Rattle.packing_laws.specs.Instances.{InstanceValue, IsAmong}
use Rattle.flow_graph.specs.declared.parts.TypeArc.{TypeArc}
use Rattle.flow_graph.specs.declared.parts.ArcKind.{ArcKind}
use Rattle.flow_graph.specs.declared.parts.ArcKind.TheVariants.{Bin, Loss, Piece}
use Rattle.flow_graph.specs.Arcs.{kind_of}
use Rattle.flow_graph.specs.Faithful.{content_of}
use Rattle.flow_model.specs.Flows.{carries, weigh_arcs}
use Rattle.pattern_extract.specs.Trims.{IsUsedBin, held, over_types}
pub use Rattle.pattern_extract.specs.Takings.{HaveLeft, IsTaken, weight_along}
use Rattle.joint_arcs.specs.Joined.{JointValue, node_count, numbered}
use Rattle.joint_arcs.specs.Faithful.{IsFaithful, IsTypePath}
use Rattle.joint_arcs.specs.Flows.{IsConserved, total_of}

-- what comes into each node goes out of it
abbrev pub AreConserved : JointValue → List ℕ → Type 0
AreConserved g values = (v : ℕ) → IsAmong v (node_count g) → IsConserved g values v

-- something is left on the bin arc of a type
pub record HasBins (g : JointValue) (left : List ℕ) : Type 0 where
  pub t : ℕ
  pub of_type : IsAmong t g.types
  pub some : 0 < slice_index left (t - 1)

-- where an arc begins; a bin arc counts as beginning in no node
abbrev pub start_of : ArcKind → ℕ
start_of (Bin t) = 0
start_of (Loss t tail head) = tail
start_of (Piece t tail head item form) = tail

-- at place k stands an arc that goes on from node v, which is no target, and something is left on it
pub record IsWayOn (row : List ArcKind) (left : List ℕ) (v k : ℕ) : Type 0 where
  pub kind : ArcKind
  pub there : slice_get row k ≡ Some kind
  pub starts : start_of kind ≡ v
  pub some : 0 < slice_index left k

-- no way on from a node stands before the place that is kept for the node
abbrev pub AreCursors : JointValue → List ℕ → List ℕ → Type 0
AreCursors g left cursors = (v k : ℕ) → 1 ≤ v → IsWayOn (numbered g) left v k → slice_index cursors (v - 1) ≤ k

-- a weight of each arc, by its place
abbrev pub row_weight : (ArcKind → ℕ) → JointValue → ℕ → ℕ
row_weight w g k = slice_index (map w (numbered g)) k

-- the arcs are those of a path to the target of the bin's type and the type's bin arc, and the bin holds what the path carries
pub record IsCircuit (g : JointValue) (bin : Alike) (arcs : List ℕ) : Type 0 where
  pub of_type : IsAmong bin.bin_type g.types
  pub times : 1 ≤ bin.times
  pub path : List TypeArc
  pub leads : IsTypePath g bin.bin_type path
  pub content : bin.counts ≡ content_of path
  pub weights : (w : ArcKind → ℕ) → weight_along (row_weight w g) arcs ≡ w (Bin bin.bin_type) + sum_by (λ e. w (kind_of 1 e)) path

-- a number of each type, for its bin arc
abbrev pub on_type : (ℕ → ℕ) → ArcKind → ℕ
on_type w (Bin t) = w t
on_type w (Loss t tail head) = 0
on_type w (Piece t tail head item form) = 0

-- a number of each type, times what is on its bin arc, added up
abbrev pub over_bins : (ℕ → ℕ) → JointValue → List ℕ → ℕ
over_bins w g left = weigh_arcs (on_type w) (numbered g) left

-- units are moved off the arcs into bins: of each type and of each item there are as many as before
pub record AreDrawn (g : JointValue) (left : List ℕ) (bins : List Alike) (rest : List ℕ) (more : List Alike) : Type 0 where
  pub conserved : AreConserved g rest
  pub falls : (k : ℕ) → slice_index rest k ≤ slice_index left k
  pub used : (I : InstanceValue) → IsFaithful I g → All (IsUsedBin I) bins → All (IsUsedBin I) more
  pub types : (w : ℕ → ℕ) → over_bins w g left + over_types w bins ≡ over_bins w g rest + over_types w more
  pub units : (i : ℕ) → total_of (carries i) g left + held i bins ≡ total_of (carries i) g rest + held i more

-- the bins hold all that the values carry, and of each type there are as many as its bin arc has units
pub record AreBinsOf (g : JointValue) (values : List ℕ) (bins : List Alike) : Type 0 where
  pub used : (I : InstanceValue) → IsFaithful I g → All (IsUsedBin I) bins
  pub types : (w : ℕ → ℕ) → over_bins w g values ≡ over_types w bins
  pub units : (i : ℕ) → total_of (carries i) g values ≡ held i bins
