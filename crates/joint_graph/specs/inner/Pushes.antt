-- States that are found and arcs that are appended, one after the other.
use Rattle.std.specs.Prelude.{◌≡◌, ◌⊎◌, ◌↔◌, ℕ, ◌+◌, ◌<◌, ◌≤◌, List, Contains, length, slice_index_or}
use Rattle.std.specs.List.Sorted.{IsStrictlySortedBy}
use Rattle.std.specs.declared.option.Option.{Option}
use Rattle.std.specs.declared.option.Option.TheVariants.{Some, None}
use Rattle.weight_vec.specs.Weight.{AtMost}
use Rattle.label_graph.specs.declared.parts.GraphArc.{GraphArc}
use Rattle.label_graph.specs.declared.parts.Piece.{Piece}
use Rattle.label_graph.specs.declared.parts.Mark.{Mark}
use Rattle.label_graph.specs.declared.parts.Mark.TheVariants.{Loss}
use Rattle.joint_graph.specs.declared.states.State.{State}
use Rattle.joint_graph.specs.Numbers.{IsNumber}
use Rattle.joint_graph.specs.Joints.{IsType, cap_at}
use Rattle.joint_graph.specs.JointLevels.{Step, IsReached, state_cmp, source, IsStepArc, IsEndArc}

-- this state follows by the mark, or none does
abbrev pub Follows : {N : ℕ} → List (Piece N) → List (List ℕ) → State N → Mark → Option (State N) → Type 0
Follows {N} pieces caps s m None = (t : State N) → Step pieces caps s m t → ⊥
Follows pieces caps s m (Some t) = Step pieces caps s m t

-- the list grows by the element, if there is one and it is not yet there
pub record Adds {X : Type 0} (old new : List X) (added : Option X) : Type 0 where
  pub grows : length old ≤ length new
  pub kept : (i : ℕ) (d : X) → i < length old → slice_index_or new i d ≡ slice_index_or old i d
  pub here : (x : X) → added ≡ Some x → Contains new x
  pub only : (x : X) → Contains new x → Contains old x ⊎ (added ≡ Some x)

-- the states are reached, among them the source and what follows the first n
pub record IsFound {N : ℕ} (pieces : List (Piece N)) (caps : List (List ℕ)) (found : List (State N)) (n : ℕ) : Type 0 where
  pub first : Contains found (source N)
  pub reached : (s : State N) → Contains found s → IsReached pieces caps s
  pub followed : (i : ℕ) (d t : State N) (m : Mark) → i < n → i < length found → Step pieces caps (slice_index_or found i d) m t → Contains found t

-- all states that are reached, in order
pub record AreStates {N : ℕ} (pieces : List (Piece N)) (caps : List (List ℕ)) (states : List (State N)) : Type 0 where
  pub ordered : IsStrictlySortedBy state_cmp states
  pub reached : (s : State N) → Contains states s ↔ IsReached pieces caps s

-- arcs of a kind are appended
abbrev pub Appends : List GraphArc → List GraphArc → (GraphArc → Type 0) → Type 0
Appends old new Kind = (e : GraphArc) → Contains new e ↔ (Contains old e ⊎ Kind e)

-- an arc from the state at index i to the next one, if there is one
abbrev pub IsArcTo : {N : ℕ} → List (State N) → ℕ → Mark → Option (State N) → GraphArc → Type 0
IsArcTo states i m None e = ⊥
IsArcTo states i m (Some t) e = (e.tail ≡ i + 1) × (e.mark ≡ m) × IsNumber states e.head t

-- an arc from the state at index i of so many to the target of a type that this weight fits
abbrev pub IsEndTo : List (List ℕ) → ℕ → ℕ → List ℕ → GraphArc → Type 0
IsEndTo caps count i used e = (e.tail ≡ i + 1) × (e.mark ≡ Loss) × ((t : ℕ) × IsType caps t × AtMost used (cap_at caps t) × (e.head ≡ count + t))

-- such an arc to the target of one of the first n types
abbrev pub IsEndBelow : List (List ℕ) → ℕ → ℕ → List ℕ → ℕ → GraphArc → Type 0
IsEndBelow caps count i used n e = (e.tail ≡ i + 1) × (e.mark ≡ Loss) × ((t : ℕ) × IsType caps t × (t ≤ n) × AtMost used (cap_at caps t) × (e.head ≡ count + t))

-- any arc from the state at index i
abbrev pub IsArcFrom : {N : ℕ} → List (Piece N) → List (List ℕ) → List (State N) → ℕ → GraphArc → Type 0
IsArcFrom pieces caps states i e = (IsStepArc pieces caps states e ⊎ IsEndArc pieces caps states e) × (e.tail ≡ i + 1)

-- the arcs from the states before index n
abbrev pub AreArcsBefore : {N : ℕ} → List (Piece N) → List (List ℕ) → List (State N) → ℕ → List GraphArc → Type 0
AreArcsBefore pieces caps states n arcs = (e : GraphArc) → Contains arcs e ↔ ((IsStepArc pieces caps states e ⊎ IsEndArc pieces caps states e) × (e.tail ≤ n))
