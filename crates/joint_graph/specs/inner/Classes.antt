-- The nodes of a joint graph in classes: those with the same rooms for some types together.
use Rattle.std.specs.Prelude.{◌≡◌, ◌↔◌, ℕ, ◌-◌, ◌≤◌, ◌<◌, List, [], Contains, length, slice_index, slice_index_or}
use Rattle.std.specs.declared.option.Option.{Option}
use Rattle.std.specs.declared.option.Option.TheVariants.{Some, None}
use Rattle.weight_vec.specs.Weight.{AtMost, Before}
use Rattle.label_graph.specs.declared.parts.GraphArc.{GraphArc}
use Rattle.label_graph.specs.declared.parts.Mark.TheVariants.{Loss}
use Rattle.label_graph.specs.Graph.{IsPath, weight_in}
use Rattle.joint_graph.specs.declared.mains.Key.{Key}
use Rattle.joint_graph.specs.Joints.{JointValue, IsInner, IsType, target_at}
use Rattle.joint_graph.specs.Ways.{IsWayOn, HaveSameRooms}
use Rattle.joint_graph.specs.Merged.{IsImage}
use Rattle.joint_graph.specs.inner.Ranks.{IsInto}

-- the class of a node
abbrev pub class_at : List ℕ → ℕ → ℕ
class_at numbers v = slice_index numbers (v - 1)

-- no way, or a way that is heavier in no place
abbrev pub IsUnder : Option (List ℕ) → Option (List ℕ) → Type 0
IsUnder None above = Unit {0}
IsUnder (Some weights) None = ⊥
IsUnder (Some weights) (Some above) = AtMost weights above

-- for each of the first n types node w has no heavier way on than node v
abbrev pub LiesUnder : {N : ℕ} → JointValue N → ℕ → ℕ → ℕ → Type 0
LiesUnder g n v w = (t : ℕ) → 1 ≤ t → t ≤ n → (above : Option (List ℕ)) × (under : Option (List ℕ)) × IsWayOn g t v above × IsWayOn g t w under × IsUnder under above

-- so many classes of the nodes that are no targets, each of some node
pub record AreNumbered {N : ℕ} (g : JointValue N) (numbers : List ℕ) (count : ℕ) : Type 0 where
  pub sized : length numbers ≡ g.inner
  pub few : count ≤ g.inner
  pub low : (v : ℕ) → IsInner g v → 1 ≤ class_at numbers v
  pub high : (v : ℕ) → IsInner g v → class_at numbers v ≤ count
  pub onto : (w : ℕ) → 1 ≤ w → w ≤ count → (v : ℕ) × IsInner g v × (class_at numbers v ≡ w)

-- classes by the rooms for the first n types; the less room is left by the heaviest ways on, the earlier the class
pub record AreClasses {N : ℕ} (g : JointValue N) (n : ℕ) (numbers : List ℕ) (count : ℕ) : Type 0 where
  pub numbered : AreNumbered g numbers count
  pub same : (v w : ℕ) → IsInner g v → IsInner g w → (class_at numbers v ≡ class_at numbers w) ↔ HaveSameRooms g n v w
  pub rises : (v w : ℕ) → IsInner g v → IsInner g w → LiesUnder g n v w → class_at numbers v ≤ class_at numbers w

-- classes rise along each arc between nodes that are no targets, and stay only along a loss arc
abbrev pub RiseAlong : {N : ℕ} → JointValue N → List ℕ → Type 0
RiseAlong g numbers = (e : GraphArc) → Contains g.arcs e → IsInner g e.head → (class_at numbers e.tail ≤ class_at numbers e.head) × ((class_at numbers e.tail ≡ class_at numbers e.head) → e.mark ≡ Loss)

-- what is left of the image's paths fits the types
abbrev pub FitsMerged : {N : ℕ} → JointValue N → List ℕ → ℕ → Type 0
FitsMerged {N} g numbers count = (into : List ℕ) (image : JointValue N) → IsInto numbers count (length g.caps) into → image.inner ≡ count → IsImage g into image → (t : ℕ) → IsType g.caps t → (path : List GraphArc) → IsPath image.arcs 1 (target_at image t) path → (d : ℕ) → weight_in image.pieces d path ≤ slice_index (slice_index_or g.caps (t - 1) []) d

-- a class and a way on, as one key
abbrev pub key_of : {N : ℕ} → List ℕ → List (Option (List ℕ)) → ℕ → Key N
key_of numbers ways i = record { class = slice_index numbers i; way = record { 0 = slice_index_or ways i None } }

-- a key for each class and its way on
pub record AreKeys {N : ℕ} (numbers : List ℕ) (ways : List (Option (List ℕ))) (keys : List (Key N)) : Type 0 where
  pub sized : length keys ≡ length numbers
  pub each : (i : ℕ) (d : Key N) → i < length numbers → slice_index_or keys i d ≡ key_of numbers ways i

-- heavier ways on come first, and none at the end
abbrev pub WayBefore : Option (List ℕ) → Option (List ℕ) → Type 0
WayBefore None later = ⊥
WayBefore (Some weights) None = Unit {0}
WayBefore (Some weights) (Some later) = Before later weights
