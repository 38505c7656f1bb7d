-- The joint levels of a list of pieces and the capacities of all types: the ways to take copies of one piece after the
-- other as long as what is taken fits some type.
use Rattle.std.specs.Prelude.{◌≡◌, ◌⊎◌, ◌↔◌, ℕ, ◌+◌, ◌≤◌, ◌<◌, List, All, AllPairs, Contains, length, replicate}
use Rattle.std.proofs.Common.{zero, suc}
use Rattle.std.specs.Ordering.{nat_cmp, ordering_then}
use Rattle.std.specs.List.Sorted.{IsStrictlySortedBy}
use Rattle.std.specs.declared.cmp.Ordering.{Ordering}
use Rattle.std.specs.declared.cmp.Ordering.TheVariants.{Less}
use Rattle.std.specs.Cmp.Lexicographic.{slice_cmp}
use Rattle.arc_num.specs.declared.TheConstants.{MAX_ALL_FORMS}
use Rattle.label_graph.specs.declared.parts.GraphArc.{GraphArc}
use Rattle.label_graph.specs.declared.parts.Piece.{Piece}
use Rattle.label_graph.specs.declared.parts.Mark.{Mark}
use Rattle.label_graph.specs.declared.parts.Mark.TheVariants.{Loss, Piece as Carries}
use Rattle.label_graph.specs.Graph.{ArcBefore, piece_weight}
use Rattle.weight_vec.specs.Weight.{AtMost, IsZero, plus}
use Rattle.level_graph.specs.Levels.{piece_copies}
use Rattle.joint_graph.specs.declared.states.State.{State}
use Rattle.joint_graph.specs.Numbers.{IsNumber}
use Rattle.joint_graph.specs.Joints.{JointValue, IsType, FitsSome, cap_at}

-- what is asked of the pieces: each weighs something
pub record ArePieces {N : ℕ} (pieces : List (Piece N)) : Type 0 where
  pub few : length pieces ≤ MAX_ALL_FORMS
  pub heavy : All (λ q. IsZero q.weight → ⊥) pieces

-- at the first piece, with nothing taken
abbrev pub source : (N : ℕ) → State N
source N = record { piece = 1; copies = 0; used = replicate N 0 }

-- the two rules: a take of one more copy, where what is taken then fits some type, and a skip to the next piece
abbrev pub Step : {N : ℕ} → List (Piece N) → List (List ℕ) → State N → Mark → State N → Type 0
Step pieces caps s (Carries p) t = (p ≡ s.piece) × (s.piece ≤ length pieces) × (s.copies < piece_copies pieces s.piece) × FitsSome caps (plus s.used (piece_weight pieces s.piece)) × (t ≡ record { piece = s.piece; copies = s.copies + 1; used = plus s.used (piece_weight pieces s.piece) })
Step pieces caps s Loss t = (s.piece < length pieces) × (t ≡ record { piece = s.piece + 1; copies = 0; used = s.used })

-- so many steps lead from the source to the state
abbrev pub ReachedIn : {N : ℕ} → List (Piece N) → List (List ℕ) → ℕ → State N → Type 0
ReachedIn {N} pieces caps zero s = s ≡ source N
ReachedIn {N} pieces caps (suc n) s = (r : State N) × ReachedIn pieces caps n r × ((m : Mark) × Step pieces caps r m s)

-- takes and skips lead from the source to the state
abbrev pub IsReached : {N : ℕ} → List (Piece N) → List (List ℕ) → State N → Type 0
IsReached pieces caps s = (n : ℕ) × ReachedIn pieces caps n s

-- states stand by piece, then by copies, then by weight
abbrev pub state_cmp : {N : ℕ} → State N → State N → Ordering
state_cmp s t = ordering_then (nat_cmp s.piece t.piece) (ordering_then (nat_cmp s.copies t.copies) (slice_cmp nat_cmp s.used t.used))

abbrev pub StateBefore : {N : ℕ} → State N → State N → Type 0
StateBefore s t = state_cmp s t ≡ Less

-- the arc is a step between the states at its ends
pub record IsStepArc {N : ℕ} (pieces : List (Piece N)) (caps : List (List ℕ)) (states : List (State N)) (e : GraphArc) : Type 0 where
  pub from : State N
  pub to : State N
  pub tail_at : IsNumber states e.tail from
  pub head_at : IsNumber states e.head to
  pub step : Step pieces caps from e.mark to

-- the arc leads from a state at the last piece, or without pieces from the source, to the target of a type that what is
-- taken fits
pub record IsEndArc {N : ℕ} (pieces : List (Piece N)) (caps : List (List ℕ)) (states : List (State N)) (e : GraphArc) : Type 0 where
  pub from : State N
  pub tail_at : IsNumber states e.tail from
  pub last : length pieces ≤ from.piece
  pub bin_type : ℕ
  pub is_type : IsType caps bin_type
  pub fits : AtMost from.used (cap_at caps bin_type)
  pub head_is : e.head ≡ length states + bin_type
  pub mark_is : e.mark ≡ Loss

-- the joint level graph: its nodes are the states that are reached, in order, and the targets
pub record AreJointLevels {N : ℕ} (pieces : List (Piece N)) (caps : List (List ℕ)) (g : JointValue N) : Type 0 where
  pub states : List (State N)
  pub states_ordered : IsStrictlySortedBy state_cmp states
  pub states_reached : (s : State N) → Contains states s ↔ IsReached pieces caps s
  pub pieces_are : g.pieces ≡ pieces
  pub caps_are : g.caps ≡ caps
  pub inner_is : g.inner ≡ length states
  pub arcs_ordered : AllPairs ArcBefore g.arcs
  pub arcs_are : (e : GraphArc) → Contains g.arcs e ↔ (IsStepArc pieces caps states e ⊎ IsEndArc pieces caps states e)
