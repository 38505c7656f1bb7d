-- The main graph of a list of pieces and a capacity.
use Rattle.std.specs.Prelude.{ℕ, List}
use Rattle.label_graph.specs.declared.parts.Piece.{Piece}
use Rattle.label_graph.specs.Graph.{GraphValue}
use Rattle.level_graph.specs.Levels.{IsLevelGraph}
use Rattle.main_compress.specs.MainGraphs.{IsMainGraph}

-- the graph is the main graph of the level graph
pub record IsMainOf {N : ℕ} (pieces : List (Piece N)) (cap : List ℕ) (main : GraphValue N) : Type 0 where
  pub level : GraphValue N
  pub is_level : IsLevelGraph pieces cap level
  pub is_main : IsMainGraph cap level main
