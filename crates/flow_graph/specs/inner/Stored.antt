-- What a graph keeps beside its types.
use Rattle.std.specs.Prelude.{◌≡◌, List}
use Rattle.flow_graph.specs.declared.parts.ArcKind.{ArcKind}
use Rattle.flow_graph.specs.Arcs.{TypeValue, IsFlowGraph, numbered}

-- the row that is kept beside the types is that of their arcs
pub record IsStored (g : List TypeValue) (kinds : List ArcKind) : Type 0 where
  pub graph : IsFlowGraph g
  pub row : kinds ≡ numbered g
