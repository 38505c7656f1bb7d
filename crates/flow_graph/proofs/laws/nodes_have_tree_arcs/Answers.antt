use Rattle.flow_graph.proofs.Trees.{one_tree_arc}
use Rattle.flow_graph.proofs.laws.nodes_have_tree_arcs.Goals as goal

pub returns : goal.returns
returns c = one_tree_arc
