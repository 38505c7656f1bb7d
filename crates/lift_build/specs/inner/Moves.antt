-- Arcs between the numbers of labels, as arcs between the nodes of a graph.
use Rattle.std.specs.Prelude.{◌≡◌, ℕ, ◌-◌, ◌≤◌, List, length, slice_index}
use Rattle.label_graph.specs.declared.parts.GraphArc.{GraphArc}
use Rattle.lift_build.specs.inner.Numbers.{IsNumber}

-- the number of a label among some labels becomes that among others
abbrev pub MovesTo : List (List ℕ) → List (List ℕ) → ℕ → ℕ → Type 0
MovesTo labels others v w = (l : List ℕ) → IsNumber labels v l → IsNumber others w l

-- the arc becomes the other one, which carries the same between the same labels
pub record IsMoved (labels others : List (List ℕ)) (x y : GraphArc) : Type 0 where
  pub tail : MovesTo labels others x.tail y.tail
  pub head : MovesTo labels others x.head y.head
  pub mark : y.mark ≡ x.mark

-- for each number of a label the number of the same label among others
pub record ArePlaces (labels others : List (List ℕ)) (places : List ℕ) : Type 0 where
  pub count : length places ≡ length labels
  pub each : (v : ℕ) → 1 ≤ v → v ≤ length labels → MovesTo labels others v (slice_index places (v - 1))

-- both ends of the arc are numbers of so many labels
pub record HasEnds (count : ℕ) (x : GraphArc) : Type 0 where
  pub tail_low : 1 ≤ x.tail
  pub tail_high : x.tail ≤ count
  pub head_low : 1 ≤ x.head
  pub head_high : x.head ≤ count

-- the arc between the places of its ends
abbrev pub moved_arc : List ℕ → GraphArc → GraphArc
moved_arc places x = record { tail = slice_index places (x.tail - 1); head = slice_index places (x.head - 1); mark = x.mark }
