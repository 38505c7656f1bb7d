-- Laws of graphs: nodes lie on paths, and labels bound the weights of paths.
use Rattle.std.specs.Prelude.{ℕ, ◌+◌, ◌≤◌, List, length, slice_index}
use Rattle.label_graph.specs.declared.parts.GraphArc.{GraphArc}
use Rattle.label_graph.specs.Graph.{GraphValue, IsGraph, IsPath, weight_in, label_of}

-- the node lies on a path from the first node to the last
pub record OnPath {N : ℕ} (g : GraphValue N) (v : ℕ) : Type 0 where
  pub before : List GraphArc
  pub after : List GraphArc
  pub comes : IsPath g.arcs 1 v before
  pub goes : IsPath g.arcs v (length g.labels) after

-- each node lies on a path from the first node to the last
abbrev pub NodesLieOnPaths : Type 0
NodesLieOnPaths = (N : ℕ) (g : GraphValue N) → IsGraph N g → (v : ℕ) → 1 ≤ v → v ≤ length g.labels → OnPath g v

-- each path weighs at most the label at its end less the one at its start
abbrev pub LabelsBoundWeights : Type 0
LabelsBoundWeights = (N : ℕ) (g : GraphValue N) → IsGraph N g → (path : List GraphArc) (a b : ℕ) → IsPath g.arcs a b path → (d : ℕ) → slice_index (label_of g.labels a) d + weight_in g.pieces d path ≤ slice_index (label_of g.labels b) d
