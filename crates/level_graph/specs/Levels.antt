-- The level graph of a list of pieces and a capacity. A state stands at a piece, with some copies of it taken and
-- some weight used.
use Rattle.std.specs.Prelude.{◌≡◌, ◌⊎◌, ◌↔◌, ℕ, ◌+◌, ◌-◌, ◌≤◌, ◌<◌, List, [], ◌∷◌, All, AllPairs, Contains, length, map, replicate, slice_index_or}
use Rattle.std.proofs.Common.{zero, suc}
use Rattle.std.specs.Ordering.{nat_cmp, ordering_then}
use Rattle.std.specs.declared.cmp.Ordering.{Ordering}
use Rattle.std.specs.declared.cmp.Ordering.TheVariants.{Less}
use Rattle.std.specs.Cmp.Lexicographic.{slice_cmp}
use Rattle.arc_num.specs.declared.TheConstants.{MAX_ALL_FORMS}
use Rattle.label_graph.specs.declared.parts.GraphArc.{GraphArc}
use Rattle.label_graph.specs.declared.parts.Piece.{Piece}
use Rattle.label_graph.specs.declared.parts.Mark.{Mark}
use Rattle.label_graph.specs.declared.parts.Mark.TheVariants.{Loss, Piece as Carries}
use Rattle.label_graph.specs.Graph.{GraphValue, ArcBefore, piece_weight}
use Rattle.weight_vec.specs.Weight.{AtMost, IsZero, plus}
use Rattle.level_graph.specs.declared.states.State.{State}

-- what is asked of the pieces: each fits, weighs something and has a copy, and no two are of one form
pub record IsPieceList {N : ℕ} (pieces : List (Piece N)) (cap : List ℕ) : Type 0 where
  pub few : length pieces ≤ MAX_ALL_FORMS
  pub apart : AllPairs (λ p q. ((p.item ≡ q.item) × (p.form ≡ q.form)) → ⊥) pieces
  pub fit : All (λ q. AtMost q.weight cap) pieces
  pub heavy : All (λ q. IsZero q.weight → ⊥) pieces
  pub copied : All (λ q. 1 ≤ q.copies) pieces

-- the copies of the piece with this number
abbrev pub piece_copies : {N : ℕ} → List (Piece N) → ℕ → ℕ
piece_copies pieces p = slice_index_or (map (λ q. q.copies) pieces) (p - 1) 0

-- at the first piece, with nothing taken
abbrev pub source : (N : ℕ) → State N
source N = record { piece = 1; copies = 0; used = replicate N 0 }

-- past the last piece; without pieces the target is the source
abbrev pub target : {N : ℕ} → List (Piece N) → List ℕ → State N
target {N} [] cap = source N
target (q ∷ pieces) cap = record { piece = length (q ∷ pieces) + 1; copies = 0; used = cap }

-- the two rules: a take of one more copy, and a skip to the next piece or from the last one to the target
abbrev pub Step : {N : ℕ} → List (Piece N) → List ℕ → State N → Mark → State N → Type 0
Step pieces cap s (Carries p) t = (p ≡ s.piece) × (s.piece ≤ length pieces) × (s.copies < piece_copies pieces s.piece) × AtMost (plus s.used (piece_weight pieces s.piece)) cap × (t ≡ record { piece = s.piece; copies = s.copies + 1; used = plus s.used (piece_weight pieces s.piece) })
Step pieces cap s Loss t = ((s.piece < length pieces) × (t ≡ record { piece = s.piece + 1; copies = 0; used = s.used })) ⊎ ((s.piece ≡ length pieces) × (t ≡ target pieces cap))

-- so many steps lead from the source to the state
abbrev pub ReachedIn : {N : ℕ} → List (Piece N) → List ℕ → ℕ → State N → Type 0
ReachedIn {N} pieces cap zero s = s ≡ source N
ReachedIn {N} pieces cap (suc n) s = (r : State N) × ReachedIn pieces cap n r × ((m : Mark) × Step pieces cap r m s)

-- takes and skips lead from the source to the state
abbrev pub IsReached : {N : ℕ} → List (Piece N) → List ℕ → State N → Type 0
IsReached pieces cap s = (n : ℕ) × ReachedIn pieces cap n s

-- states stand by piece, then by copies, then by weight
abbrev pub state_cmp : {N : ℕ} → State N → State N → Ordering
state_cmp s t = ordering_then (nat_cmp s.piece t.piece) (ordering_then (nat_cmp s.copies t.copies) (slice_cmp nat_cmp s.used t.used))

abbrev pub StateBefore : {N : ℕ} → State N → State N → Type 0
StateBefore s t = state_cmp s t ≡ Less

-- the state stands at this node, from 1 on
abbrev pub IsNode : {N : ℕ} → List (State N) → ℕ → State N → Type 0
IsNode states v s = (1 ≤ v) × (v ≤ length states) × (slice_index_or states (v - 1) s ≡ s)

-- the arc is a step between the states at its ends
pub record IsStepArc {N : ℕ} (pieces : List (Piece N)) (cap : List ℕ) (states : List (State N)) (e : GraphArc) : Type 0 where
  pub from : State N
  pub to : State N
  pub tail_at : IsNode states e.tail from
  pub head_at : IsNode states e.head to
  pub step : Step pieces cap from e.mark to

-- the states are those that are reached, in order, and the arcs are their steps, in order
pub record IsLevels {N : ℕ} (pieces : List (Piece N)) (cap : List ℕ) (states : List (State N)) (arcs : List GraphArc) : Type 0 where
  pub states_ordered : AllPairs StateBefore states
  pub states_reached : (s : State N) → Contains states s ↔ IsReached pieces cap s
  pub arcs_ordered : AllPairs ArcBefore arcs
  pub arcs_step : (e : GraphArc) → Contains arcs e ↔ IsStepArc pieces cap states e

-- the graph is the level graph: each node is labelled with the weight of its state, the target with the capacity
pub record IsLevelGraph {N : ℕ} (pieces : List (Piece N)) (cap : List ℕ) (g : GraphValue N) : Type 0 where
  pub states : List (State N)
  pub levels : IsLevels pieces cap states g.arcs
  pub pieces_are : g.pieces ≡ pieces
  pub labels_are : g.labels ≡ map (λ s. s.used) states

-- the level graph has so many nodes and arcs
pub record IsLevelCount {N : ℕ} (pieces : List (Piece N)) (cap : List ℕ) (nodes arcs : ℕ) : Type 0 where
  pub state_list : List (State N)
  pub arc_list : List GraphArc
  pub levels : IsLevels pieces cap state_list arc_list
  pub nodes_are : nodes ≡ length state_list
  pub arcs_are : arcs ≡ length arc_list
