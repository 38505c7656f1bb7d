-- A worked graph: of two pieces that weigh 6 and 5, with the capacity 10. New labels merge its first two nodes.
use Rattle.std.specs.Prelude.{ℕ, List, [], ◌∷◌}
use Rattle.label_graph.specs.declared.parts.Mark.TheVariants.{Loss, Piece as Carries}
use Rattle.label_graph.specs.Graph.{GraphValue}

abbrev pub two_pieces : GraphValue 1
two_pieces = record {
  pieces = record { item = 1; form = 1; weight = 6 ∷ []; copies = 1 } ∷ record { item = 2; form = 1; weight = 5 ∷ []; copies = 1 } ∷ [];
  labels = (4 ∷ []) ∷ (5 ∷ []) ∷ (10 ∷ []) ∷ [];
  arcs = record { tail = 1; head = 2; mark = Loss } ∷ record { tail = 1; head = 3; mark = Carries 1 } ∷ record { tail = 2; head = 3; mark = Loss } ∷ record { tail = 2; head = 3; mark = Carries 2 } ∷ [];
}

abbrev pub two_nodes : List (List ℕ)
two_nodes = (0 ∷ []) ∷ (0 ∷ []) ∷ (6 ∷ []) ∷ []
