use Rattle.std.proofs.Common.{refl}
use Rattle.flow_graph.proofs.Examples.{two_nodes, one_node, no_items}
use Rattle.flow_graph.proofs.laws.examples_come_out.Goals as goal

pub returns : goal.returns
returns c = record {
  two_types = refl;
  first_of_second = refl;
  last_of_second = refl;
  tree_arcs = refl;
  chords = refl;
  second_type = refl;
  two_nodes_points = refl;
  three_nodes_points = refl;
  no_arc_points = refl;
  two_nodes = two_nodes;
  one_node = one_node;
  no_items = no_items;
}
