-- The greatest weights of paths.
use Rattle.std.specs.Prelude.{◌≡◌, ℕ, ◌≤◌, List}
use Rattle.label_graph.specs.declared.parts.GraphArc.{GraphArc}
use Rattle.label_graph.specs.Graph.{GraphValue, IsPath, weight_in}

-- in dimension d, which counts from 0, some path from a to b weighs x, and none weighs more
pub record IsGreatestWeight {N : ℕ} (g : GraphValue N) (a b d x : ℕ) : Type 0 where
  pub path : List GraphArc
  pub leads : IsPath g.arcs a b path
  pub weighs : weight_in g.pieces d path ≡ x
  pub most : (other : List GraphArc) → IsPath g.arcs a b other → weight_in g.pieces d other ≤ x
