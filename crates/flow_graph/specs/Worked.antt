-- Examples of arcs and boxes that are worked by hand.
use Rattle.std.specs.Prelude.{◌≡◌, [], ◌∷◌, None, true, false, map, replicate}
use Rattle.flow_graph.specs.declared.parts.ArcKind.TheVariants.{Bin, Loss, Piece}
use Rattle.packing_laws.specs.Instances.{InstanceValue}
use Rattle.flow_graph.specs.Arcs.{TypeValue, IsFlowType, numbered, first_arc, last_arc}
use Rattle.flow_graph.specs.Faithful.{IsFaithful}
use Rattle.flow_graph.specs.Chords.{is_tree, is_chord, points_of}

-- two nodes: from one to the other nothing, an item or another one
abbrev pub one_of_two : TypeValue
one_of_two = record {
  nodes = 2;
  arcs = record { tail = 1; head = 2; item = 0; form = 0 } ∷ record { tail = 1; head = 2; item = 1; form = 1 } ∷ record { tail = 1; head = 2; item = 2; form = 1 } ∷ [];
}

-- at most two units of one item
abbrev pub up_to_two : TypeValue
up_to_two = record {
  nodes = 3;
  arcs = record { tail = 1; head = 2; item = 1; form = 1 } ∷ record { tail = 1; head = 3; item = 0; form = 0 } ∷ record { tail = 2; head = 3; item = 0; form = 0 } ∷ record { tail = 2; head = 3; item = 1; form = 1 } ∷ [];
}

-- nothing fits
abbrev pub nothing_fits : TypeValue
nothing_fits = record { nodes = 1; arcs = [] }

-- in one dimension: bins of 10 for 1, and no item
abbrev pub nothing_to_pack : InstanceValue
nothing_to_pack = record {
  dims = 1;
  types = record { cap = 10 ∷ []; cost = 1; limit = None } ∷ [];
  items = [];
  caps = [];
}

pub record Examples : Type 0 where
  pub two_types : numbered (one_of_two ∷ nothing_fits ∷ []) ≡ Bin 1 ∷ Loss 1 1 2 ∷ Piece 1 1 2 1 1 ∷ Piece 1 1 2 2 1 ∷ Bin 2 ∷ []
  pub first_of_second : first_arc (one_of_two ∷ nothing_fits ∷ []) 2 ≡ 5
  pub last_of_second : last_arc (one_of_two ∷ nothing_fits ∷ []) 2 ≡ 5
  pub tree_arcs : map (is_tree (up_to_two ∷ [])) (1 ∷ 2 ∷ 3 ∷ 4 ∷ 5 ∷ 6 ∷ []) ≡ false ∷ true ∷ true ∷ false ∷ false ∷ false ∷ []
  pub chords : map (is_chord (up_to_two ∷ [])) (0 ∷ 1 ∷ 2 ∷ 3 ∷ 4 ∷ 5 ∷ 6 ∷ []) ≡ false ∷ true ∷ false ∷ false ∷ true ∷ true ∷ false ∷ []
  pub second_type : map (is_tree (one_of_two ∷ one_of_two ∷ [])) (5 ∷ 6 ∷ 7 ∷ 8 ∷ []) ≡ false ∷ true ∷ false ∷ false ∷ []
  pub two_nodes_points : points_of (one_of_two ∷ []) (replicate 4 (0, 2)) ≡ 27
  pub three_nodes_points : points_of (up_to_two ∷ []) (replicate 5 (0, 3)) ≡ 64
  pub no_arc_points : points_of (nothing_fits ∷ []) ((0, 7) ∷ []) ≡ 8
  pub two_nodes : IsFlowType one_of_two
  pub one_node : IsFlowType nothing_fits
  pub no_items : IsFaithful nothing_to_pack (nothing_fits ∷ [])
