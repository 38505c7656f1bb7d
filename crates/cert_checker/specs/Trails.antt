-- Open boxes, kept as the first of them and the way that leads to it.
use Rattle.std.specs.Prelude.{◌≡◌, ℕ, ◌+◌, ◌-◌, Bool, true, false, if◌then◌else◌, List, [], ◌∷◌, slice_set}
use Rattle.flow_graph.specs.Chords.{IsGenuine, high_part, low_part, range_at}
use Rattle.cert_laws.specs.Rules.{Box}
use Rattle.cert_checker.specs.declared.trails.Branch.{Branch}

-- the box that was split, of which a branch has a part: the arc of the split has its range back
abbrev pub outer_of : Branch → Box → Box
outer_of b box = slice_set box (b.arc - 1) (b.lower, b.upper)

-- a box is the part of another that a branch tells: the low or the high part of one genuine split
pub record IsBranch (b : Branch) (box : Box) : Type 0 where
  pub cut : ℕ
  pub genuine : IsGenuine (outer_of b box) b.arc cut
  pub part : box ≡ (if b.low then low_part (outer_of b box) b.arc cut else high_part (outer_of b box) b.arc cut)

-- a trail, the innermost branch first, leads to a box: it has one branch for each split on the way there
abbrev pub LeadsTo : Box → List Branch → Type 0
LeadsTo box [] = Unit {0}
LeadsTo box (b ∷ trail) = IsBranch b box × LeadsTo (outer_of b box) trail

-- the box from which a trail leads to a box
abbrev pub root_of : Box → List Branch → Box
root_of box [] = box
root_of box (b ∷ trail) = root_of (outer_of b box) trail

-- the high part that waits beside a low part: it begins behind the upper end of the low one
abbrev pub beside : Branch → Box → Box
beside b box = slice_set box (b.arc - 1) ((range_at box b.arc).1 + 1, b.upper)

-- the boxes that wait beside a trail, the innermost first
abbrev pub waiting : Box → List Branch → List Box
waiting box [] = []
waiting box (b ∷ trail) = if b.low then beside b box ∷ waiting (outer_of b box) trail else waiting (outer_of b box) trail

-- what a walk through a tree is seen as: the box in which it began, and the open boxes
pub record WalkValue : Type 0 where
  pub root : Box
  pub boxes : List Box

-- the open boxes: the first one and those that wait, or none at the end of the walk
abbrev pub open_boxes : Bool → Box → List Branch → List Box
open_boxes true box trail = box ∷ waiting box trail
open_boxes false box trail = []
