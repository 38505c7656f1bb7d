-- How an image is made: the node of each label, and what becomes of each arc.
use Rattle.std.specs.Prelude.{◌≡◌, ℕ, ◌-◌, ◌≤◌, ◌==◌, ◌&&◌, Bool, true, false, if◌then◌else◌, List, length, slice_index}
use Rattle.std.specs.declared.option.Option.{Option}
use Rattle.std.specs.declared.option.Option.TheVariants.{Some, None}
use Rattle.label_graph.specs.declared.parts.GraphArc.{GraphArc}
use Rattle.label_graph.specs.declared.parts.Mark.{Mark}
use Rattle.label_graph.specs.declared.parts.Mark.TheVariants.{Loss, Piece as Carries}
use Rattle.label_graph.specs.Images.{IsMergedInto}

-- for each node the one into which it is merged
pub record AreNodes (labels distinct : List (List ℕ)) (nodes : List ℕ) : Type 0 where
  pub count : length nodes ≡ length labels
  pub each : (v : ℕ) → 1 ≤ v → v ≤ length labels → IsMergedInto labels distinct v (slice_index nodes (v - 1))

abbrev pub is_loss : Mark → Bool
is_loss Loss = true
is_loss (Carries p) = false

-- the arc between the nodes into which the ends are merged, if it is no loss arc from a node to itself
abbrev pub merged_arc : List ℕ → GraphArc → Option GraphArc
merged_arc nodes e = if (slice_index nodes (e.tail - 1) == slice_index nodes (e.head - 1)) && is_loss e.mark then None else Some (record { tail = slice_index nodes (e.tail - 1); head = slice_index nodes (e.head - 1); mark = e.mark })

-- the ends of the arc are among so many nodes
pub record HasEnds (count : ℕ) (e : GraphArc) : Type 0 where
  pub tail_low : 1 ≤ e.tail
  pub tail_high : e.tail ≤ count
  pub head_low : 1 ≤ e.head
  pub head_high : e.head ≤ count
