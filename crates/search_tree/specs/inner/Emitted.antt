-- The lines of a certificate that the places of a tree give.
use Rattle.std.specs.Prelude.{◌≡◌, ℕ, ◌≤◌, false, List, [], ◌++◌, Option, None, Some, All, length, map, drop, take}
use Rattle.packing_laws.specs.Instances.{InstanceValue}
use Rattle.flow_graph.specs.Arcs.{TypeValue, numbered}
use Rattle.cert_text.specs.declared.lines.Need.{Need}
use Rattle.cert_text.specs.declared.lines.TreeLine.{TreeLine}
use Rattle.cert_text.specs.declared.lines.TreeLine.TheVariants as line
use Rattle.cert_text.specs.declared.lines.CertLine.{CertLine}
use Rattle.cert_text.specs.declared.lines.CertLine.TheVariants as cert
use Rattle.cert_text.specs.Lines.{IsNeed}
use Rattle.cert_laws.specs.Needs.{IsNeeded}
use Rattle.cert_laws.specs.Rules.{Box, Progress, AreAccepted, after_line, after_lines, at_start}
use Rattle.search_tree.specs.declared.lines.Target.{Target}
use Rattle.search_tree.specs.declared.places.Place.{Place}
use Rattle.search_tree.specs.declared.places.SplitAt.{SplitAt}
use Rattle.search_tree.specs.Trees.{Fills, Reaches, TreeValue, splits_in, splits_of}

-- how many parts a place has
abbrev pub parts_of : Option SplitAt → ℕ
parts_of None = 0
parts_of (Some s) = 2

-- the line splits a box so, and if it carries a need, then one that holds
pub data IsSplitLine (I : InstanceValue) (g : List TypeValue) (box : Box) (goal : Option ℕ) (s : SplitAt) (l : TreeLine) : Type 0 where
  plain : l ≡ line.Split s.arc s.k → IsSplitLine I g box goal s l
  needed : (n : Need) → l ≡ line.Needed s.arc s.k n → IsNeed n → All (λ x. x.arc ≤ length (numbered g)) n.parts → IsNeeded I g box goal n → IsSplitLine I g box goal s l

-- a place becomes a leaf: it shows the claim, and where the tree is not pruned it is not split
abbrev pub MakesLeaf : Target → Place → Type 0
MakesLeaf target p = Reaches p.shown.claim target.claim × (target.is_pruned ≡ false → p.split ≡ None)

-- the line of a place: its split, or a leaf of its prices where they show the claim
pub data IsLineOf (I : InstanceValue) (g : List TypeValue) (box : Box) (target : Target) (p : Place) (l : TreeLine) : Type 0 where
  split : (s : SplitAt) → p.split ≡ Some s → IsSplitLine I g box target.goal s l → IsLineOf I g box target p l
  leaf : l ≡ line.Leaf p.shown.prices → MakesLeaf target p → IsLineOf I g box target p l

-- behind the head and the claim of a certificate of version 2
abbrev pub claimed : InstanceValue → List TypeValue → Target → Progress
claimed I g target = after_line (after_line (at_start I g) (cert.Head 2)) (cert.Claim target.claim target.goal)

-- places of the tree, as lines of a certificate
abbrev pub tree_of : List TreeLine → List CertLine
tree_of lines = map (λ l. cert.Tree l) lines

-- so many places were looked at: the lines are accepted, and the other places fill first some boxes that are passed over and
-- then those that the lines leave open
pub record IsEmitted (I : InstanceValue) (g : List TypeValue) (target : Target) (T : TreeValue) (count passed : ℕ) (lines : List TreeLine) : Type 0 where
  pub over : List Box
  pub over_size : length over ≡ passed
  pub accepted : AreAccepted I g (claimed I g target) (tree_of lines)
  pub fills : Fills T.root (over ++ (after_lines (claimed I g target) (tree_of lines)).boxes) (drop count T.places)
  pub fewer : splits_in lines ≤ splits_of (take count T.places)
  pub none_passed : target.is_pruned ≡ false → (passed ≡ 0) × (splits_in lines ≡ splits_of (take count T.places))

-- the lines of the whole tree: they are accepted and leave no box open
pub record IsWritten (I : InstanceValue) (g : List TypeValue) (target : Target) (T : TreeValue) (lines : List TreeLine) : Type 0 where
  pub accepted : AreAccepted I g (claimed I g target) (tree_of lines)
  pub closed : (after_lines (claimed I g target) (tree_of lines)).boxes ≡ []
  pub fewer : splits_in lines ≤ splits_of T.places
  pub all : target.is_pruned ≡ false → splits_in lines ≡ splits_of T.places
