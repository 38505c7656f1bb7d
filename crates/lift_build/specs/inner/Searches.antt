-- What a search over lifted states has found of the main graph: labels, and arcs between the numbers of labels.
use Rattle.std.specs.Prelude.{◌≡◌, ◌≢◌, ◌⊎◌, ◌==◌, if◌then◌else◌, ℕ, ◌+◌, ◌-◌, ◌≤◌, ◌<◌, List, Contains, MatchOption, length, slice_index}
use Rattle.std.proofs.Common.{zero, suc}
use Rattle.std.specs.declared.option.Option.{Option}
use Rattle.std.specs.declared.option.Option.TheVariants.{Some, None}
use Rattle.weight_vec.specs.Weight.{AtMost, plus, lower, minus}
use Rattle.label_graph.specs.Graph.{label_of}
use Rattle.label_graph.specs.declared.parts.GraphArc.{GraphArc}
use Rattle.label_graph.specs.declared.parts.Piece.{Piece}
use Rattle.label_graph.specs.declared.parts.Mark.{Mark}
use Rattle.label_graph.specs.declared.parts.Mark.TheVariants.{Loss, Piece as Carries}
use Rattle.level_graph.specs.declared.states.State.{State}
use Rattle.level_graph.specs.Levels.{Step, IsReached, source, target}
use Rattle.lift_build.specs.declared.states.LiftedState.{LiftedState}
use Rattle.lift_build.specs.declared.found.Ahead.{Ahead}
use Rattle.lift_build.specs.declared.found.Ahead.TheVariants.{Known, Lifted}
use Rattle.lift_build.specs.declared.found.Frame.{Frame}
use Rattle.lift_build.specs.declared.found.Search.{Search}
use Rattle.lift_build.specs.inner.Numbers.{IsNumber, AreApart, Grows, IsAdded}
use Rattle.lift_build.specs.inner.Rooms.{room_left, IsUnder, IsLift}

-- so many steps lead from s to t
abbrev pub LeadsIn : {N : ℕ} → List (Piece N) → List ℕ → ℕ → State N → State N → Type 0
LeadsIn pieces cap zero s t = s ≡ t
LeadsIn {N} pieces cap (suc n) s t = (u : State N) × ((m : Mark) × Step pieces cap s m u) × LeadsIn pieces cap n u t

-- the arc is the image of a step from s to t, by the numbers of labels
pub record IsImageOf {N : ℕ} (pieces : List (Piece N)) (cap : List ℕ) (labels : List (List ℕ)) (x : GraphArc) (s : State N) (m : Mark) (t : State N) : Type 0 where
  pub tail : IsNumber labels x.tail (room_left pieces cap s)
  pub head : IsNumber labels x.head (room_left pieces cap t)
  pub mark : x.mark ≡ m
  pub kept : m ≡ Loss → room_left pieces cap s ≢ room_left pieces cap t

-- the image of the step is among the arcs, or is a loss arc from a node to itself
abbrev pub HasImage : {N : ℕ} → List (Piece N) → List ℕ → List (List ℕ) → List GraphArc → State N → Mark → State N → Type 0
HasImage pieces cap labels arcs s m t = ((m ≡ Loss) × (room_left pieces cap s ≡ room_left pieces cap t)) ⊎ ((x : GraphArc) × Contains arcs x × IsImageOf pieces cap labels x s m t)

-- the label of the state and the images of all its steps are there
pub record IsShown {N : ℕ} (pieces : List (Piece N)) (cap : List ℕ) (labels : List (List ℕ)) (arcs : List GraphArc) (s : State N) : Type 0 where
  pub number : ℕ
  pub label : IsNumber labels number (room_left pieces cap s)
  pub steps : (m : Mark) (t : State N) → Step pieces cap s m t → HasImage pieces cap labels arcs s m t

-- and those of all states that steps reach from it
abbrev pub Covers : {N : ℕ} → List (Piece N) → List ℕ → List (List ℕ) → List GraphArc → State N → Type 0
Covers {N} pieces cap labels arcs s = (n : ℕ) (t : State N) → LeadsIn pieces cap n s t → IsShown pieces cap labels arcs t

-- a state whose label has this number, with all that lies behind it
pub record IsDone {N : ℕ} (pieces : List (Piece N)) (cap : List ℕ) (labels : List (List ℕ)) (arcs : List GraphArc) (s : State N) (number : ℕ) : Type 0 where
  pub label : IsNumber labels number (room_left pieces cap s)
  pub covers : Covers pieces cap labels arcs s

-- the step leads from some reached state to another, and the arc is its image
pub record IsFromStep {N : ℕ} (pieces : List (Piece N)) (cap : List ℕ) (labels : List (List ℕ)) (x : GraphArc) : Type 0 where
  pub from : State N
  pub to : State N
  pub reached : IsReached pieces cap from
  pub step : Step pieces cap from x.mark to
  pub image : IsImageOf pieces cap labels x from x.mark to

-- nothing was found but labels and arcs of the main graph, each once; the target's label has number 1
pub record IsSound {N : ℕ} (pieces : List (Piece N)) (cap : List ℕ) (labels : List (List ℕ)) (arcs : List GraphArc) : Type 0 where
  pub target : IsNumber labels 1 cap
  pub from_states : (l : List ℕ) → Contains labels l → (s : State N) × IsReached pieces cap s × (room_left pieces cap s ≡ l)
  pub from_steps : (x : GraphArc) → Contains arcs x → IsFromStep pieces cap labels x
  pub labels_apart : AreApart labels
  pub arcs_apart : AreApart arcs

-- all of the main graph was found
pub record IsWhole {N : ℕ} (pieces : List (Piece N)) (cap : List ℕ) (labels : List (List ℕ)) (arcs : List GraphArc) : Type 0 where
  pub sound : IsSound pieces cap labels arcs
  pub covers : Covers pieces cap labels arcs (source N)

-- more arcs were found than there is room for
pub record IsTooMuch {N : ℕ} (pieces : List (Piece N)) (cap : List ℕ) (room : ℕ) : Type 0 where
  pub labels : List (List ℕ)
  pub arcs : List GraphArc
  pub sound : IsSound pieces cap labels arcs
  pub over : room < length arcs

-- the state without its lift
abbrev pub state_of : {N : ℕ} → LiftedState N → State N
state_of s = record { piece = s.piece; copies = s.copies; used = s.used }

-- a search between two steps: its finished states are done, with their numbers in the same order
pub record IsSearch {N : ℕ} (pieces : List (Piece N)) (cap : List ℕ) (room : ℕ) (search : Search N) : Type 0 where
  pub sound : IsSound pieces cap search.labels search.arcs
  pub roomy : length search.arcs ≤ room
  pub count : length search.numbers.items ≡ length search.states
  pub done : (n : ℕ) (s : LiftedState N) → IsNumber search.states n s → IsDone pieces cap search.labels search.arcs (state_of s) (slice_index search.numbers.items (n - 1))

-- labels keep their numbers, and arcs stay
pub record GrowsInto {N : ℕ} (old new : Search N) : Type 0 where
  pub labels : Grows old.labels new.labels
  pub arcs : (x : GraphArc) → Contains old.arcs x → Contains new.arcs x

-- the state is finished, and its label has this number
abbrev pub HasNumber : {N : ℕ} → Search N → LiftedState N → ℕ → Type 0
HasNumber search s number = (n : ℕ) × IsNumber search.states n s × (slice_index search.numbers.items (n - 1) ≡ number)

-- the state's number where it is finished, and else the state itself
abbrev pub IsAhead : {N : ℕ} → Search N → LiftedState N → Ahead N → Type 0
IsAhead search s (Known number) = HasNumber search s number
IsAhead search s (Lifted next) = next ≡ s

-- one more copy of the piece, if there is one that fits
abbrev pub IsTake : {N : ℕ} → Piece N → List ℕ → LiftedState N → Option (LiftedState N) → Type 0
IsTake piece cap s None = s.copies < piece.copies → AtMost (plus s.used piece.weight) cap → ⊥
IsTake piece cap s (Some t) = (s.copies < piece.copies) × AtMost (plus s.used piece.weight) cap × (t ≡ record { piece = s.piece; copies = s.copies + 1; used = plus s.used piece.weight })

-- an arc was added, if there was one
abbrev pub IsGrownBy : Option GraphArc → List GraphArc → List GraphArc → Type 0
IsGrownBy None old new = new ≡ old
IsGrownBy (Some x) old new = (n : ℕ) × IsAdded old new x n

-- the state has no take
abbrev pub HasNoTake : {N : ℕ} → List (Piece N) → List ℕ → State N → Type 0
HasNoTake {N} pieces cap s = (t : State N) → Step pieces cap s (Carries s.piece) t → ⊥

-- so many skips lead from s to t, each from a state that has no take
abbrev pub PassesIn : {N : ℕ} → List (Piece N) → List ℕ → ℕ → State N → State N → Type 0
PassesIn pieces cap zero s t = s ≡ t
PassesIn {N} pieces cap (suc n) s t = (u : State N) × HasNoTake pieces cap s × Step pieces cap s Loss u × PassesIn pieces cap n u t

abbrev pub PassesInto : {N : ℕ} → List (Piece N) → List ℕ → State N → State N → Type 0
PassesInto pieces cap s t = (n : ℕ) × PassesIn pieces cap n s t

-- the state, or the first one behind it that has a take; none where the target is behind it
abbrev pub IsNextTake : {N : ℕ} → List (Piece N) → List ℕ → LiftedState N → Option (LiftedState N) → Type 0
IsNextTake pieces cap s None = PassesInto pieces cap (state_of s) (target pieces cap)
IsNextTake pieces cap s (Some t) = PassesInto pieces cap (state_of s) (state_of t) × (1 ≤ t.piece) × (t.piece ≤ length pieces) × (t.used ≡ s.used)

-- the same while it is looked for: the state at a piece is come to, or behind the last one the target
abbrev pub MayPass : {N : ℕ} → List (Piece N) → List ℕ → LiftedState N → ℕ → LiftedState N → Type 0
MayPass pieces cap s index here = (PassesInto pieces cap (state_of s) (state_of here) × (here.piece ≡ index + 1) × (here.piece ≤ length pieces) × (here.used ≡ s.used)) ⊎ (PassesInto pieces cap (state_of s) (target pieces cap) × (length pieces ≤ index))

-- the second state stands for one that the first passes into
abbrev pub PassesUnder : {N : ℕ} → List (Piece N) → List ℕ → State N → State N → Type 0
PassesUnder {N} pieces cap s t = (u : State N) × PassesInto pieces cap s u × IsUnder pieces cap u t

-- what lies from a state on: it is done, or another stands for what it passes into and is not
abbrev pub LiesFrom : {N : ℕ} → List (Piece N) → List ℕ → Search N → State N → Ahead N → Type 0
LiesFrom pieces cap search t (Known number) = IsDone pieces cap search.labels search.arcs t number
LiesFrom pieces cap search t (Lifted next) = PassesUnder pieces cap t (state_of next) × (next.piece ≤ length pieces)

-- what lies behind a step: a state that is done, or one that stands for what it passes into and is not
abbrev pub LiesAhead : {N : ℕ} → List (Piece N) → List ℕ → Search N → State N → Mark → Ahead N → Type 0
LiesAhead {N} pieces cap search s m (Known number) = (t : State N) × Step pieces cap s m t × IsDone pieces cap search.labels search.arcs t number
LiesAhead {N} pieces cap search s m (Lifted next) = (t : State N) × Step pieces cap s m t × PassesUnder pieces cap t (state_of next) × (next.piece ≤ length pieces)

-- a state that waits stands for one that is reached, and what lies behind its skip is done where its number is given
pub record IsWaiting {N : ℕ} (pieces : List (Piece N)) (cap : List ℕ) (search : Search N) (frame : Frame N) : Type 0 where
  pub lift : IsLift pieces cap (state_of frame.state)
  pub within : frame.state.piece ≤ length pieces
  pub skip : MatchOption frame.skip (Unit {0}) (λ number. LiesAhead pieces cap search (state_of frame.state) Loss (Known number))

-- what lies behind a take, if one more copy fits
abbrev pub MayTake : {N : ℕ} → List (Piece N) → List ℕ → Search N → State N → Option (Ahead N) → Type 0
MayTake pieces cap search s None = HasNoTake pieces cap s
MayTake pieces cap search s (Some ahead) = LiesAhead pieces cap search s (Carries s.piece) ahead

-- the same where all that lies behind it is done
abbrev pub KnownTake : {N : ℕ} → List (Piece N) → List ℕ → Search N → State N → Option ℕ → Type 0
KnownTake pieces cap search s None = HasNoTake pieces cap s
KnownTake pieces cap search s (Some number) = LiesAhead pieces cap search s (Carries s.piece) (Known number)

-- the label before a skip and a take, by the numbers of the labels behind them
abbrev pub IsBefore : List ℕ → List (List ℕ) → ℕ → Option ℕ → List ℕ → Type 0
IsBefore weight labels skip None label = label ≡ label_of labels skip
IsBefore weight labels skip (Some take) label = label ≡ lower (label_of labels skip) (minus (label_of labels take) weight)

-- the numbers are those of labels, and the one behind the take has room for the weight
abbrev pub AreBehind : List ℕ → List (List ℕ) → ℕ → Option ℕ → Type 0
AreBehind weight labels skip None = (1 ≤ skip) × (skip ≤ length labels)
AreBehind weight labels skip (Some take) = (1 ≤ skip) × (skip ≤ length labels) × (1 ≤ take) × (take ≤ length labels) × AtMost weight (label_of labels take)

-- the arc of a skip, unless it leads from a node to itself, and that of a take
abbrev pub skip_arc : ℕ → ℕ → Option GraphArc
skip_arc number skip = if number == skip then None else Some (record { tail = number; head = skip; mark = Loss })

abbrev pub take_arc : ℕ → Option ℕ → ℕ → Option GraphArc
take_arc number None piece = None
take_arc number (Some take) piece = Some (record { tail = number; head = take; mark = Carries piece })

-- a finished state is noted with the number of its label
pub record IsNoted {N : ℕ} (old new : Search N) (s : LiftedState N) (number : ℕ) : Type 0 where
  pub labels : new.labels ≡ old.labels
  pub arcs : new.arcs ≡ old.arcs
  pub count : length new.numbers.items ≡ length new.states
  pub each : (n : ℕ) (t : LiftedState N) → IsNumber new.states n t → (IsNumber old.states n t × (slice_index new.numbers.items (n - 1) ≡ slice_index old.numbers.items (n - 1))) ⊎ ((t ≡ s) × (slice_index new.numbers.items (n - 1) ≡ number))
