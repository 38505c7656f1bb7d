-- The nodes that an arc joins.
use Rattle.std.specs.Prelude.{ℕ, Bool, ◌==◌, ◌&&◌, List}
use Rattle.flow_graph.specs.declared.parts.ArcKind.{ArcKind}
use Rattle.flow_graph.specs.declared.parts.ArcKind.TheVariants.{Bin, Loss, Piece}
use Rattle.flow_graph.specs.Arcs.{TypeValue, flow_type}

-- the arc goes out of node v of type t; a bin arc goes out of the target of its type
abbrev pub goes_out : List TypeValue → ℕ → ℕ → ArcKind → Bool
goes_out g t v (Bin s) = (s == t) && ((flow_type g s).nodes == v)
goes_out g t v (Loss s tail head) = (s == t) && (tail == v)
goes_out g t v (Piece s tail head item form) = (s == t) && (tail == v)

-- the arc comes into node v of type t; a bin arc comes into the source of its type
abbrev pub comes_in : ℕ → ℕ → ArcKind → Bool
comes_in t v (Bin s) = (s == t) && (1 == v)
comes_in t v (Loss s tail head) = (s == t) && (head == v)
comes_in t v (Piece s tail head item form) = (s == t) && (head == v)
