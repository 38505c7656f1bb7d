-- Laws of final graphs: their paths weigh no more, they lose no content, there is but one, and padding changes nothing
-- of them.
use Rattle.std.specs.Prelude.{◌≡◌, ℕ, ◌≤◌, List, length}
use Rattle.label_graph.specs.declared.parts.GraphArc.{GraphArc}
use Rattle.label_graph.specs.Graph.{GraphValue, IsGraph, IsPath, weight_in}
use Rattle.label_graph.specs.ImageLaws.{HasPathLike}
use Rattle.label_graph.specs.Cuts.{IsPaddedGraph, cut_graph}
use Rattle.final_compress.specs.FinalGraphs.{IsFinalGraph}

-- the final graph of a graph is a graph
abbrev pub FinalGraphsAreGraphs : Type 0
FinalGraphsAreGraphs = (N : ℕ) (g final : GraphValue N) → IsGraph N g → IsFinalGraph g final → IsGraph N final

-- some path from the source to the target weighs at least as much in dimension d
pub record HasPathAsHeavy {N : ℕ} (g : GraphValue N) (d weight : ℕ) : Type 0 where
  pub path : List GraphArc
  pub leads : IsPath g.arcs 1 (length g.labels) path
  pub heavy : weight ≤ weight_in g.pieces d path

-- in no dimension does a path of the final graph weigh more than some path of the given one
abbrev pub FinalPathsWeighNoMore : Type 0
FinalPathsWeighNoMore = (N : ℕ) (g final : GraphValue N) → IsGraph N g → IsFinalGraph g final → (path : List GraphArc) → IsPath final.arcs 1 (length final.labels) path → (d : ℕ) → HasPathAsHeavy g d (weight_in final.pieces d path)

-- the content of each path from the source to the target is that of such a path of the final graph
abbrev pub FinalGraphsKeepContents : Type 0
FinalGraphsKeepContents = (N : ℕ) (g final : GraphValue N) → IsGraph N g → IsFinalGraph g final → (path : List GraphArc) → IsPath g.arcs 1 (length g.labels) path → HasPathLike final path

-- there is but one final graph
abbrev pub FinalGraphsAreOne : Type 0
FinalGraphsAreOne = (N : ℕ) (g final other : GraphValue N) → IsFinalGraph g final → IsFinalGraph g other → final ≡ other

-- zeros behind all weights and labels change nothing of a final graph, and stand behind its labels too
pub record CutsKeepFinal (N n : ℕ) (g final : GraphValue N) : Type 0 where
  pub padded : IsPaddedGraph n final
  pub cut : IsFinalGraph (cut_graph n g) (cut_graph n final)

abbrev pub CutsKeepFinalGraphs : Type 0
CutsKeepFinalGraphs = (N n : ℕ) (g final : GraphValue N) → n ≤ N → IsGraph N g → IsPaddedGraph n g → IsFinalGraph g final → CutsKeepFinal N n g final
