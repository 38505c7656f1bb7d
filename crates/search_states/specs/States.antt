-- How far a search is.
use Rattle.std.specs.Prelude.{◌≡◌, ◌⊎◌, ℕ, ◌≤◌, List, Option, None, Some, All, IfSome, length, slice_get}
use Rattle.std.specs.Option.{IsSomeAnd}
use Rattle.arc_num.specs.declared.TheConstants.{MAX_PRICE}
use Rattle.packing_laws.specs.declared.packings.Bin.{Bin}
use Rattle.packing_laws.specs.Instances.{InstanceValue}
use Rattle.packing_laws.specs.Packings.{IsJoined, cost_of}
use Rattle.packing_laws.specs.Printed.{IsTidy, IsWrittenPacking, bins_of}
use Rattle.packing_laws.specs.Floors.{HasSingle, material_of, single_of}
use Rattle.flow_graph.specs.Arcs.{TypeValue, numbered}
use Rattle.flow_model.specs.Boxes.{IsPartOf, root_ranges}
use Rattle.cert_text.specs.declared.lines.Claim.{Claim}
use Rattle.cert_text.specs.declared.lines.Claim.TheVariants.{Bound, Empty}
use Rattle.cert_text.specs.declared.lines.Need.{Need}
use Rattle.cert_text.specs.Lines.{IsNeed}
use Rattle.cert_laws.specs.Rules.{Box}
use Rattle.column_master.specs.Masters.{MasterValue}
use Rattle.fixed_leaf.specs.Leaves.{TellsChords}
use Rattle.search_tree.specs.declared.places.Place.{Place}
use Rattle.search_tree.specs.declared.places.Shown.{Shown}
use Rattle.search_tree.specs.Points.{HasOpenChord}
use Rattle.search_tree.specs.Trees.{IsShown, KeepsNeeds, LeavesReach, Reaches, SplitsChords, box_of, splits_of}
use Rattle.search_states.specs.declared.known.Known.{Known}
use Rattle.search_states.specs.declared.findings.Finding.{Finding}
use Rattle.search_states.specs.declared.states.State.{State}

-- a packing in the printed form, no two bins of which can be joined
pub record IsPrinted (I : InstanceValue) (bins : List Bin) : Type 0 where
  pub packing : IsWrittenPacking I bins
  pub tidy : IsTidy bins
  pub joined : IsJoined I (bins_of bins)

-- a packing that is known, and what it costs
pub record IsKnown (I : InstanceValue) (k : Known) : Type 0 where
  pub printed : IsPrinted I k.packing
  pub cost : k.cost ≡ cost_of I (bins_of k.packing)
  pub small : k.cost ≤ MAX_PRICE

-- the cheapest packing so far: where the single cost exists there is one that costs at most that
pub record IsBest (I : InstanceValue) (best : Option Known) : Type 0 where
  pub known : IfSome best (IsKnown I)
  pub single : HasSingle I → IsSomeAnd best (λ k. k.cost ≤ single_of I)

-- what closes a box: that no packing costs less than the cheapest one, or that there is none
abbrev pub goal_of : Option Known → Claim
goal_of None = Empty
goal_of (Some k) = Bound k.cost

-- what closed a box still closes it
abbrev pub IsBetter : Option Known → Option Known → Type 0
IsBetter old new = (claim : Claim) → Reaches claim (goal_of old) → Reaches claim (goal_of new)

-- what is known of a box is no less than the material bound
abbrev pub IsValued : InstanceValue → List TypeValue → Box → Shown → Type 0
IsValued I g box s = IsShown I g box s × Reaches s.claim (Bound (material_of I))

-- the box is closed, or can be split
abbrev pub IsSettled : List TypeValue → Box → Option Known → Claim → Type 0
IsSettled g box best claim = Reaches claim (goal_of best) ⊎ HasOpenChord g box

-- a flow that a line can tell, of arcs that exist
abbrev pub IsNeedIn : List TypeValue → Need → Type 0
IsNeedIn g n = IsNeed n × All (λ x. x.arc ≤ length (numbered g)) n.parts

-- what was found out of a box, where this was the cheapest packing before
pub record IsFinding (I : InstanceValue) (g : List TypeValue) (box : Box) (old : Option Known) (f : Finding) : Type 0 where
  pub valued : IsValued I g box f.shown
  pub best : IsBest I f.best
  pub better : IsBetter old f.best
  pub settled : IsSettled g box f.best f.shown.claim
  pub need : IfSome f.need (IsNeedIn g)

-- how far a search is: each place of the tree is known, and each that is not split is closed or could be split on a chord
pub record IsState (I : InstanceValue) (g : List TypeValue) (s : State) : Type 0 where
  pub root : s.tree.root ≡ root_ranges I g
  pub parts : All (λ p. IsPartOf s.tree.root (box_of s.tree.root p)) s.tree.places
  pub valued : All (λ p. IsValued I g (box_of s.tree.root p) p.shown) s.tree.places
  pub chords : SplitsChords g s.tree
  pub needs : KeepsNeeds g s.tree
  pub leaves : All (λ p. p.split ≡ None → IsSettled g (box_of s.tree.root p) s.best p.shown.claim) s.tree.places
  pub best : IsBest I s.best
  pub told : TellsChords g s.chords

-- the master prices boxes of this graph of the instance
abbrev pub IsMasterOf : InstanceValue → List TypeValue → MasterValue → Type 0
IsMasterOf I g m = (m.instance ≡ I) × (m.graph ≡ g)

-- a place that is not split, and of which too little is known for a goal
abbrev pub IsOpen : Place → Claim → Type 0
IsOpen p goal = (p.split ≡ None) × (Reaches p.shown.claim goal → ⊥)

-- the index of a place that is not split and not closed
pub record IsOpenLeaf (s : State) (index : ℕ) : Type 0 where
  pub place : Place
  pub read : slice_get s.tree.places index ≡ Some place
  pub is_open : IsOpen place (goal_of s.best)

-- a search whose places show the same by other prices
pub record IsRepriced (old new : State) : Type 0 where
  pub best : new.best ≡ old.best
  pub splits : splits_of new.tree.places ≡ splits_of old.tree.places
  pub leaves : (claim : Claim) → LeavesReach claim old.tree → LeavesReach claim new.tree
