-- Laws of numbered arcs.
use Rattle.std.specs.Prelude.{◌≡◌, ◌↔◌, ℕ, ◌+◌, ◌≤◌, ◌<◌, true, false, ℤ, pos, List, ◌++◌, All, Some, length, sum_by, slice_get}
use Rattle.arc_num.specs.declared.TheConstants.{MAX_NUMBERED}
use Rattle.packing_laws.specs.Instances.{IsAmong}
use Rattle.flow_graph.specs.declared.parts.TypeArc.{TypeArc}
use Rattle.flow_graph.specs.declared.parts.ArcKind.{ArcKind}
use Rattle.flow_graph.specs.declared.parts.ArcKind.TheVariants.{Bin}
use Rattle.flow_graph.specs.Arcs.{TypeValue, IsFlowType, IsFlowGraph, flow_type, numbered, arc_at, kind_of, first_arc, last_arc}
use Rattle.flow_graph.specs.Balance.{AreBalanced, HasOneExtension, rise_of, weigh_signed}
use Rattle.flow_graph.specs.Chords.{IsGenuine, IsTreeArcOf, high_part, is_chord, low_part, points_of, range_at}
use Rattle.flow_graph.specs.Faithful.{IsPath, AreNumbersOf}

-- the node lies on a path from the source to the target
pub record OnPath (x : TypeValue) (v : ℕ) : Type 0 where
  pub before : List TypeArc
  pub after : List TypeArc
  pub leads_to : IsPath x.arcs 1 v before
  pub leads_on : IsPath x.arcs v x.nodes after

-- each node of a type lies on a path from its source to its target
abbrev pub NodesLieOnPaths : Type 0
NodesLieOnPaths = (x : TypeValue) → IsFlowType x → (v : ℕ) → 1 ≤ v → v ≤ x.nodes → OnPath x v

-- the first number of type t is that of its bin arc, and the numbers after it are those of its arcs, in order
pub record HasNumbers (g : List TypeValue) (t : ℕ) : Type 0 where
  pub bin : arc_at g (first_arc g t) ≡ Some (Bin t)
  pub arcs : (k : ℕ) (e : TypeArc) → slice_get (flow_type g t).arcs k ≡ Some e → arc_at g (first_arc g t + 1 + k) ≡ Some (kind_of t e)

-- each type has its numbers, and each number is one of some type
pub record NumbersAreArcs : Type 0 where
  pub types : (g : List TypeValue) (t : ℕ) → IsAmong t (length g) → HasNumbers g t
  pub numbers : (g : List TypeValue) (a : ℕ) → IsAmong a (length (numbered g)) → (t : ℕ) × IsAmong t (length g) × (first_arc g t ≤ a) × (a ≤ last_arc g t)

-- the arcs of each path have numbers
abbrev pub PathsHaveNumbers : Type 0
PathsHaveNumbers = (g : List TypeValue) (t : ℕ) → IsAmong t (length g) → (path : List TypeArc) (a b : ℕ) → IsPath (flow_type g t).arcs a b path → (numbers : List ℕ) × AreNumbersOf g t numbers path

-- there is a tree arc of the node, and no other
pub record HasOneTreeArc (g : List TypeValue) (t v : ℕ) : Type 0 where
  pub arc : ℕ
  pub tree : IsTreeArcOf g t v arc
  pub only : (a : ℕ) → IsTreeArcOf g t v a → a ≡ arc

-- each node of a type but its source has one tree arc
abbrev pub NodesHaveTreeArcs : Type 0
NodesHaveTreeArcs = (g : List TypeValue) → IsFlowGraph g → (t : ℕ) → IsAmong t (length g) → (v : ℕ) → 1 < v → v ≤ (flow_type g t).nodes → HasOneTreeArc g t v

-- what has number a: the bin arc of a type, or one of its arcs
pub data IsKindAt (g : List TypeValue) (a : ℕ) (kind : ArcKind) : Type 0 where
  is_bin : (t : ℕ) → IsAmong t (length g) → a ≡ first_arc g t → kind ≡ Bin t → IsKindAt g a kind
  is_arc : (t : ℕ) → IsAmong t (length g) → (k : ℕ) (e : TypeArc) → slice_get (flow_type g t).arcs k ≡ Some e → a ≡ first_arc g t + 1 + k → kind ≡ kind_of t e → IsKindAt g a kind

-- each number is that of the bin arc of a type or of one of its arcs
abbrev pub NumbersHaveKinds : Type 0
NumbersHaveKinds = (g : List TypeValue) (a : ℕ) (kind : ArcKind) → arc_at g a ≡ Some kind → IsKindAt g a kind

-- no two numbers are those of the same arc
abbrev pub NumbersAreUnique : Type 0
NumbersAreUnique = (g : List TypeValue) → IsFlowGraph g → (a b : ℕ) (kind : ArcKind) → arc_at g a ≡ Some kind → arc_at g b ≡ Some kind → a ≡ b

-- all types together have no more nodes than there may be numbered arcs
abbrev pub NodesAreFew : Type 0
NodesAreFew = (g : List TypeValue) → IsFlowGraph g → sum_by (λ x. x.nodes) g ≤ MAX_NUMBERED

-- a path from a to b and one from b to c give one from a to c
abbrev pub PathsJoin : Type 0
PathsJoin = (arcs : List TypeArc) (a b c : ℕ) (front back : List TypeArc) → IsPath arcs a b front → IsPath arcs b c back → IsPath arcs a c (front ++ back)

-- values on the chords extend to all arcs in balance, and in one way only
abbrev pub ChordsExtend : Type 0
ChordsExtend = (g : List TypeValue) → IsFlowGraph g → (values : List ℤ) → length values ≡ length (numbered g) → HasOneExtension g values

-- whatever the numbers at the nodes: what the arcs of balanced values rise, each times its value, adds up to nothing
abbrev pub PotentialsCancel : Type 0
PotentialsCancel = (g : List TypeValue) → IsFlowGraph g → (values : List ℤ) → AreBalanced g values → (height : ℕ → ℕ → ℤ) → weigh_signed (rise_of g height) (numbered g) values ≡ pos 0

-- the points of a box whose ranges are not empty: at least one, and just one where each chord has one value
pub record PointsOfBox (g : List TypeValue) (ranges : List (ℕ × ℕ)) : Type 0 where
  pub some : 1 ≤ points_of g ranges
  pub one : points_of g ranges ≡ 1 ↔ ((a : ℕ) → is_chord g a ≡ true → (range_at ranges a).0 ≡ (range_at ranges a).1)

-- what a split does to the number of points: those of the parts of a chord add up; where a tree arc is split each part has as many
pub record PointsOfParts (g : List TypeValue) (ranges : List (ℕ × ℕ)) (a k : ℕ) : Type 0 where
  pub chord : is_chord g a ≡ true → points_of g (low_part ranges a k) + points_of g (high_part ranges a k) ≡ points_of g ranges
  pub low : is_chord g a ≡ false → points_of g (low_part ranges a k) ≡ points_of g ranges
  pub high : is_chord g a ≡ false → points_of g (high_part ranges a k) ≡ points_of g ranges

-- the points of boxes that have a range for each arc
pub record PointsAreCounted : Type 0 where
  pub boxes : (g : List TypeValue) (ranges : List (ℕ × ℕ)) → length ranges ≡ length (numbered g) → All (λ r. r.0 ≤ r.1) ranges → PointsOfBox g ranges
  pub parts : (g : List TypeValue) (ranges : List (ℕ × ℕ)) → length ranges ≡ length (numbered g) → (a k : ℕ) → IsGenuine ranges a k → PointsOfParts g ranges a k
