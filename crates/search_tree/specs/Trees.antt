-- A tree of boxes, made of the root box by splits on arcs, with what is known of each box. Its places stand in preorder: what
-- is split is followed by its low part and then by its high part.
use Rattle.std.specs.Prelude.{◌≡◌, ℕ, ◌+◌, ◌-◌, ◌≤◌, Bool, true, false, List, [], ◌∷◌, ◌++◌, All, length, sum_by, if◌then◌else◌, is_some, Option, Some, None, IfSome, IsNone, slice_set}
use Rattle.packing_laws.specs.Instances.{InstanceValue, IsAmong}
use Rattle.flow_graph.specs.Arcs.{TypeValue, numbered}
use Rattle.flow_graph.specs.Chords.{IsGenuine, high_part, is_chord, low_part, range_at}
use Rattle.cert_text.specs.declared.lines.Claim.{Claim}
use Rattle.cert_text.specs.declared.lines.Claim.TheVariants.{Bound, Empty}
use Rattle.cert_text.specs.declared.lines.TreeLine.{TreeLine}
use Rattle.cert_text.specs.declared.lines.TreeLine.TheVariants as line
use Rattle.cert_text.specs.Lines.{ArePrices, IsClaim, IsNeed}
use Rattle.cert_laws.specs.Rules.{Box, NamesArcs, NamesItems}
use Rattle.cert_laws.specs.Shown.{Closes}
use Rattle.search_tree.specs.declared.lines.TheConstants.{MAX_PARTS}
use Rattle.search_tree.specs.declared.places.Cut.{Cut}
use Rattle.search_tree.specs.declared.places.Place.{Place}
use Rattle.search_tree.specs.declared.places.Shown.{Shown}
use Rattle.search_tree.specs.declared.places.SplitAt.{SplitAt}

-- a tree: the box of its root, and its places in preorder
pub record TreeValue : Type 0 where
  pub root : Box
  pub places : List Place

-- the box that is left of another one by cuts, the first of them first
abbrev pub cut_box : Box → List Cut → Box
cut_box box [] = box
cut_box box (c ∷ cuts) = cut_box (slice_set box (c.arc - 1) (c.lower, c.upper)) cuts

-- the box of a place
abbrev pub box_of : Box → Place → Box
box_of root p = cut_box root p.cuts

-- a place that is split leaves numbers of the arc's range on both sides
abbrev pub IsSplitOf : Box → Option SplitAt → Type 0
IsSplitOf box None = Unit {0}
IsSplitOf box (Some s) = IsGenuine box s.arc s.k

-- the boxes that are still to be filled behind a place
abbrev pub parts_before : Option SplitAt → Box → List Box → List Box
parts_before None box boxes = boxes
parts_before (Some s) box boxes = low_part box s.arc s.k ∷ high_part box s.arc s.k ∷ boxes

-- the places fill these boxes, one tree in preorder for each box
abbrev pub Fills : Box → List Box → List Place → Type 0
Fills root [] [] = Unit {0}
Fills root [] (p ∷ places) = ⊥
Fills root (box ∷ boxes) [] = ⊥
Fills root (box ∷ boxes) (p ∷ places) = (box_of root p ≡ box) × IsSplitOf box p.split × Fills root (parts_before p.split box boxes) places

-- a range that a split may leave to an arc of a box of so many arcs
abbrev pub IsCut : ℕ → Cut → Type 0
IsCut size c = IsAmong c.arc size × (c.lower ≤ c.upper)

-- the places are those of one tree that fills the root box
pub record IsTree (root : Box) (places : List Place) : Type 0 where
  pub fills : Fills root (root ∷ []) places
  pub cuts : All (λ p. All (IsCut (length root)) p.cuts) places

-- what is known of a box: prices that a line can tell, of items and arcs that exist, which close the box for what they show
pub record IsShown (I : InstanceValue) (g : List TypeValue) (box : Box) (s : Shown) : Type 0 where
  pub prices : ArePrices s.prices
  pub items : NamesItems I (line.Leaf s.prices)
  pub arcs : NamesArcs g (line.Leaf s.prices)
  pub claim : IsClaim s.claim
  pub closes : Closes I g s.prices box s.claim

-- of each place that is known which it shows
abbrev pub AreShown : InstanceValue → List TypeValue → TreeValue → Type 0
AreShown I g T = All (λ p. IsShown I g (box_of T.root p) p.shown) T.places

-- each split is one of a chord
abbrev pub SplitsChords : List TypeValue → TreeValue → Type 0
SplitsChords g T = All (λ p. IfSome p.split (λ s. is_chord g s.arc ≡ true)) T.places

-- each need that is kept is one that a line can tell, of arcs that exist
abbrev pub KeepsNeeds : List TypeValue → TreeValue → Type 0
KeepsNeeds g T = All (λ p. IfSome p.need (λ n. IsNeed n × All (λ x. x.arc ≤ length (numbered g)) n.parts)) T.places

-- what is shown is at least what is claimed: an empty box shows every bound
abbrev pub Reaches : Claim → Claim → Type 0
Reaches Empty claim = Unit {0}
Reaches (Bound shown) Empty = ⊥
Reaches (Bound shown) (Bound bound) = bound ≤ shown

-- each place that is not split shows what is claimed
abbrev pub LeavesReach : Claim → TreeValue → Type 0
LeavesReach claim T = All (λ p. IsNone p.split → Reaches p.shown.claim claim) T.places

-- how many places are split
abbrev pub splits_of : List Place → ℕ
splits_of places = sum_by (λ p. if is_some p.split then 1 else 0) places

-- a line that splits its box
abbrev pub splits_box : TreeLine → Bool
splits_box (line.Split a k) = true
splits_box (line.Needed a k need) = true
splits_box (line.Leaf prices) = false
splits_box (line.Step dim step) = false

-- how many lines split their box
abbrev pub splits_in : List TreeLine → ℕ
splits_in lines = sum_by (λ l. if splits_box l then 1 else 0) lines

-- a line that carries no need, or one of few parts
abbrev pub HasFewParts : TreeLine → Type 0
HasFewParts (line.Split a k) = Unit {0}
HasFewParts (line.Needed a k need) = length need.parts ≤ MAX_PARTS
HasFewParts (line.Leaf prices) = Unit {0}
HasFewParts (line.Step dim step) = Unit {0}

-- a place that is not split, with one cut more than another, of which this is known
abbrev pub part_place : Place → ℕ → ℕ × ℕ → Shown → Place
part_place p arc range shown = record { cuts = p.cuts ++ record { arc = arc; lower = range.0; upper = range.1 } ∷ []; shown = shown; split = None; need = None }

-- the two parts of a place that has this box
abbrev pub low_place : Box → Place → SplitAt → Shown → Place
low_place box p s shown = part_place p s.arc ((range_at box s.arc).0, s.k) shown

abbrev pub high_place : Box → Place → SplitAt → Shown → Place
high_place box p s shown = part_place p s.arc (s.k + 1, (range_at box s.arc).1) shown

-- one place of a tree is split in two, of which this is known, and all else stays
pub record IsGrown (old : TreeValue) (index : ℕ) (s : SplitAt) (low high : Shown) (new : TreeValue) : Type 0 where
  pub before : List Place
  pub place : Place
  pub after : List Place
  pub old_places : old.places ≡ before ++ place ∷ after
  pub at : length before ≡ index
  pub root : new.root ≡ old.root
  pub new_places : new.places ≡ before ++ record place { split = Some s } ∷ low_place (box_of old.root place) place s low ∷ high_place (box_of old.root place) place s high ∷ after
