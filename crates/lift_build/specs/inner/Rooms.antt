-- What the ways on from a state leave of the capacity, and states that may stand for others.
use Rattle.std.specs.Prelude.{◌≡◌, ◌⊎◌, ℕ, ◌+◌, ◌-◌, ◌*◌, ◌≤◌, ◌<◌, List, length, slice_index, if◌then◌else◌}
use Rattle.std.proofs.Common.{zero, suc}
use Rattle.label_graph.specs.declared.parts.Piece.{Piece}
use Rattle.label_graph.specs.Graph.{piece_weight}
use Rattle.weight_vec.specs.Weight.{AtMost, lower, minus, plus}
use Rattle.level_graph.specs.declared.states.State.{State}
use Rattle.level_graph.specs.Levels.{piece_copies, IsReached}
use Rattle.level_graph.specs.inner.Layers.{at_most}

-- what is left where weight x is used and up to n more copies of a piece of weight w may be taken; `behind` tells
-- what is left once the piece is skipped
abbrev pub left_taking : List ℕ → List ℕ → (List ℕ → List ℕ) → ℕ → List ℕ → List ℕ
left_taking cap w behind zero x = behind x
left_taking cap w behind (suc n) x = if at_most (plus x w) cap then lower (behind x) (minus (left_taking cap w behind n (plus x w)) w) else behind x

-- what is left where the last m pieces are to come, and c copies of the first of them are taken
unfoldable pub left_before : {N : ℕ} → List (Piece N) → List ℕ → ℕ → ℕ → List ℕ → List ℕ
left_before pieces cap zero c x = cap
left_before pieces cap (suc m) c x = left_taking cap (piece_weight pieces (length pieces - m)) (left_before pieces cap m 0) (piece_copies pieces (length pieces - m) - c) x

-- what the ways on from a state to the target leave of the capacity
unfoldable pub room_left : {N : ℕ} → List (Piece N) → List ℕ → State N → List ℕ
room_left pieces cap s = left_before pieces cap (length pieces + 1 - s.piece) s.copies s.used

-- in some place there is no room for more than so many copies of weight w beside weight x
abbrev pub IsFull : List ℕ → List ℕ → ℕ → List ℕ → Type 0
IsFull cap w n x = (d : ℕ) × (slice_index cap d < slice_index x d + suc n * slice_index w d)

-- there is no room for more copies of the state's piece than are left
abbrev pub HasEnoughCopies : {N : ℕ} → List (Piece N) → List ℕ → State N → Type 0
HasEnoughCopies pieces cap s = IsFull cap (piece_weight pieces s.piece) (piece_copies pieces s.piece - s.copies) s.used

-- so many copies are taken at the state, or more, and those that are left are still as many as there is room for
abbrev pub HasCopiesFor : {N : ℕ} → List (Piece N) → List ℕ → ℕ → State N → Type 0
HasCopiesFor pieces cap copies s = (copies ≡ s.copies) ⊎ ((copies ≤ s.copies) × HasEnoughCopies pieces cap s)

-- the second state stands for the first: it uses at least as much, and no more than the ways on leave; it may have more
-- copies taken where those that are left are still enough
pub record IsUnder {N : ℕ} (pieces : List (Piece N)) (cap : List ℕ) (r s : State N) : Type 0 where
  pub piece : r.piece ≡ s.piece
  pub copies : HasCopiesFor pieces cap r.copies s
  pub above : AtMost r.used s.used
  pub below : AtMost s.used (room_left pieces cap r)

-- the state stands for one that is reached
pub record IsLift {N : ℕ} (pieces : List (Piece N)) (cap : List ℕ) (s : State N) : Type 0 where
  pub state : State N
  pub reached : IsReached pieces cap state
  pub under : IsUnder pieces cap state s

-- in a place, what is left and some member of a set of sums are the capacity
abbrev pub HasSum : List ℕ → ℕ → (ℕ → Type 0) → (List ℕ → List ℕ) → List ℕ → Type 0
HasSum cap d sums left x = (s : ℕ) × sums s × (slice_index x d + s ≤ slice_index cap d) × (slice_index (left x) d + s ≡ slice_index cap d)

-- members of a set with up to n times a number
abbrev pub WithMultiples : ℕ → ℕ → (ℕ → Type 0) → ℕ → Type 0
WithMultiples w n sums v = (s : ℕ) × (j : ℕ) × sums s × (j ≤ n) × (s + j * w ≡ v)
