-- The states at one piece, from the weights that enter it.
use Rattle.std.specs.Prelude.{◌≡◌, ◌⊎◌, ◌↔◌, ℕ, ◌+◌, ◌==◌, ◌&&◌, nat_lt, nat_le, if◌then◌else◌, Bool, true, List, [], ◌∷◌, ◌++◌, All, AllPairs, Contains, length, map}
use Rattle.std.specs.declared.option.Option.{Option}
use Rattle.std.specs.declared.option.Option.TheVariants.{Some, None}
use Rattle.std.specs.List.{filter_map}
use Rattle.label_graph.specs.declared.parts.GraphArc.{GraphArc}
use Rattle.label_graph.specs.declared.parts.Mark.{Mark}
use Rattle.label_graph.specs.declared.parts.Mark.TheVariants.{Loss, Piece as Carries}
use Rattle.label_graph.specs.declared.parts.Piece.{Piece}
use Rattle.weight_vec.specs.Weight.{Before, plus}
use Rattle.level_graph.specs.declared.states.State.{State}
use Rattle.level_graph.specs.Levels.{StateBefore, IsNode, IsReached, Step, target}

-- is there at most as much in each place?
abbrev pub at_most : List ℕ → List ℕ → Bool
at_most [] ys = true
at_most (x ∷ xs) [] = (x == 0) && at_most xs []
at_most (x ∷ xs) (y ∷ ys) = nat_le x y && at_most xs ys

-- the state after one more copy of the piece, if there is one that fits
abbrev pub taken : {N : ℕ} → Piece N → List ℕ → State N → Option (State N)
taken piece cap s = if nat_lt s.copies piece.copies && at_most (plus s.used piece.weight) cap then Some (record { piece = s.piece; copies = s.copies + 1; used = plus s.used piece.weight }) else None

-- the states of a piece before any copy of it is taken
abbrev pub entered : {N : ℕ} → ℕ → List (List ℕ) → List (State N)
entered number entering = map (λ x. record { piece = number; copies = 0; used = x }) entering

-- the states at a piece: those that enter it, and what one more copy makes of each state
pub record IsLayer {N : ℕ} (number : ℕ) (piece : Piece N) (cap : List ℕ) (entering : List (List ℕ)) (layer : List (State N)) : Type 0 where
  pub ordered : AllPairs StateBefore layer
  pub sized : All (λ s. length s.used ≡ N) layer
  pub here : All (λ s. s.piece ≡ number) layer
  pub whole : layer ≡ entered number entering ++ filter_map (taken piece cap) layer

-- the different weights of some states, in order
pub record AreWeights {N : ℕ} (layer : List (State N)) (weights : List (List ℕ)) : Type 0 where
  pub ordered : AllPairs Before weights
  pub exact : (x : List ℕ) → Contains weights x ↔ ((s : State N) × Contains layer s × (s.used ≡ x))

-- the state at the next piece, or the target
abbrev pub skipped : {N : ℕ} → List (Piece N) → List ℕ → State N → Option (State N)
skipped pieces cap s = if nat_lt s.piece (length pieces) then Some (record { piece = s.piece + 1; copies = 0; used = s.used }) else (if s.piece == length pieces then Some (target pieces cap) else None)

-- all states that are reached, in order
pub record AreStates {N : ℕ} (pieces : List (Piece N)) (cap : List ℕ) (states : List (State N)) : Type 0 where
  pub ordered : AllPairs StateBefore states
  pub reached : (s : State N) → Contains states s ↔ IsReached pieces cap s

-- one more arc, from the state at this index to a state that follows it
pub record IsArcPushed {N : ℕ} (states : List (State N)) (index : ℕ) (mark : Mark) (next : State N) (old new : List GraphArc) : Type 0 where
  pub arc : GraphArc
  pub tail_is : arc.tail ≡ index + 1
  pub head_at : IsNode states arc.head next
  pub mark_is : arc.mark ≡ mark
  pub pushed : new ≡ old ++ arc ∷ []

-- one more arc where a step with this mark leads on from the state at an index, and else none
abbrev pub AppendsStep : {N : ℕ} → List (Piece N) → List ℕ → List (State N) → ℕ → (State N → Mark) → List GraphArc → List GraphArc → Type 0
AppendsStep {N} pieces cap states index mark old new = (s : State N) → IsNode states (index + 1) s → ((t : State N) × Step pieces cap s (mark s) t × IsArcPushed states index (mark s) t old new) ⊎ (((t : State N) → Step pieces cap s (mark s) t → ⊥) × (new ≡ old))

-- the mark of a take from a state
abbrev pub take_mark : {N : ℕ} → State N → Mark
take_mark s = Carries s.piece

-- the mark of a skip
abbrev pub skip_mark : {N : ℕ} → State N → Mark
skip_mark s = Loss
