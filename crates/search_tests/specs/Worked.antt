-- Boxes that are worked by hand: three units of one item, bins that hold two of them, and bins that hold none.
use Rattle.std.specs.Prelude.{ℕ, List, [], ◌∷◌, None}
use Rattle.packing_laws.specs.Instances.{InstanceValue}
use Rattle.flow_graph.specs.Arcs.{TypeValue}
use Rattle.flow_graph.specs.Worked.{nothing_fits, up_to_two}

-- in one dimension: bins of 2 for 3 and bins of 0 for 5, and 3 units of an item that weighs 1
abbrev pub three_in_two : InstanceValue
three_in_two = record {
  dims = 1;
  types = record { cap = 2 ∷ []; cost = 3; limit = None } ∷ record { cap = 0 ∷ []; cost = 5; limit = None } ∷ [];
  items = record { demand = 3; forms = (1 ∷ []) ∷ [] } ∷ [];
  caps = [];
}

-- the arcs of both types
abbrev pub both_graphs : List TypeValue
both_graphs = up_to_two ∷ nothing_fits ∷ []

-- the box in which the chords of the first type, and the bin arc of the second, have these values, and each tree arc
-- carries so much at most
abbrev pub box_of : ℕ → ℕ → ℕ → ℕ → ℕ → List (ℕ × ℕ)
box_of bins loss piece others most = (bins, bins) ∷ (0, most) ∷ (0, most) ∷ (loss, loss) ∷ (piece, piece) ∷ (others, others) ∷ []
