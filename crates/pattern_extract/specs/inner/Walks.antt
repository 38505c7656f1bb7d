-- Walks over arcs on which something is left, and sums over arcs under any weights. Places of arcs count from 0.
use Rattle.std.specs.Prelude.{◌≡◌, ℕ, ◌+◌, ◌-◌, ◌*◌, ◌<◌, ◌≤◌, Bool, true, false, ◌==◌, ◌&&◌, if◌then◌else◌, List, [], ◌∷◌, Some, All, length, sum_by, slice_get, slice_index}
use Rattle.std.specs.List.{list_any}
use Rattle.flow_graph.specs.declared.parts.TypeArc.{TypeArc}
use Rattle.flow_graph.specs.declared.parts.ArcKind.{ArcKind}
use Rattle.flow_graph.specs.declared.parts.ArcKind.TheVariants.{Bin, Loss, Piece}
use Rattle.flow_graph.specs.Arcs.{TypeValue, flow_type, numbered, first_arc}
use Rattle.flow_graph.specs.Faithful.{IsPath, AreNumbersOf}
pub use Rattle.pattern_extract.specs.Takings.{weigh, weight_along, IsTaken}
use Rattle.pattern_extract.specs.declared.runs.PathRun.{PathRun}
use Rattle.pattern_extract.specs.Runs.{AreConserved, IsRun}

-- the arcs of a run: the bin arc of its type, and its path
abbrev pub circuit_of : List TypeValue → PathRun → List ℕ
circuit_of g run = first_arc g run.t ∷ run.arcs

-- what the runs weigh
abbrev pub runs_weight : List TypeValue → (ℕ → ℕ) → List PathRun → ℕ
runs_weight g f runs = sum_by (λ run. run.times * weight_along f (circuit_of g run)) runs

-- the numbers are those of the arcs of a path of type t from node a to node b
abbrev pub IsRoute : List TypeValue → ℕ → ℕ → ℕ → List ℕ → Type 0
IsRoute g t a b numbers = (path : List TypeArc) × IsPath (flow_type g t).arcs a b path × AreNumbersOf g t numbers path

-- the arc goes on from node v of type t; a bin arc goes back
abbrev pub goes_on : ℕ → ℕ → ArcKind → Bool
goes_on t v (Bin s) = false
goes_on t v (Loss s tail head) = (s == t) && (tail == v)
goes_on t v (Piece s tail head item form) = (s == t) && (tail == v)

-- where the arc ends; a bin arc ends in the source
abbrev pub head_of : ArcKind → ℕ
head_of (Bin s) = 1
head_of (Loss s tail head) = head
head_of (Piece s tail head item form) = head

-- at place k stands an arc that goes on from node v of type t, and something is left on it
pub record IsWayOn (kinds : List ArcKind) (left : List ℕ) (t v k : ℕ) : Type 0 where
  pub kind : ArcKind
  pub there : slice_get kinds k ≡ Some kind
  pub goes : goes_on t v kind ≡ true
  pub some : 0 < slice_index left k

-- no way on from a node of type t stands before the place that is kept for the node
abbrev pub AreCursors : List TypeValue → ℕ → List ℕ → List ℕ → Type 0
AreCursors g t left cursors = (v k : ℕ) → 1 ≤ v → IsWayOn (numbered g) left t v k → slice_index cursors (v - 1) ≤ k

-- one of the arcs has just so many units left
pub record IsUsedUp (left : List ℕ) (times : ℕ) (numbers : List ℕ) : Type 0 where
  pub arc : ℕ
  pub among : list_any (λ n. n == arc) numbers ≡ true
  pub all : slice_index left (arc - 1) ≡ times

-- on how many arcs something is left
abbrev pub arcs_left : List ℕ → ℕ
arcs_left [] = 0
arcs_left (x ∷ left) = (if x == 0 then 0 else 1) + arcs_left left

-- some units are moved off the arcs into runs: what was left is what is left now and what the further runs hold
pub record AreMoved (g : List TypeValue) (left : List ℕ) (runs : List PathRun) (rest : List ℕ) (more : List PathRun) : Type 0 where
  pub each : All (IsRun g) more
  pub conserved : AreConserved g rest
  pub falls : (k : ℕ) → slice_index rest k ≤ slice_index left k
  pub few : length more + arcs_left rest ≤ length runs + arcs_left left
  pub sums : (f : ℕ → ℕ) → weigh f left + runs_weight g f runs ≡ weigh f rest + runs_weight g f more

-- the runs hold all units of the values, whatever weights the arcs have
pub record HoldAll (g : List TypeValue) (values : List ℕ) (runs : List PathRun) : Type 0 where
  pub each : All (IsRun g) runs
  pub sums : (f : ℕ → ℕ) → weigh f values ≡ runs_weight g f runs
