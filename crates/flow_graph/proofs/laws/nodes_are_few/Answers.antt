use Rattle.flow_graph.proofs.FewNodes.{few_nodes}
use Rattle.flow_graph.proofs.laws.nodes_are_few.Goals as goal

pub returns : goal.returns
returns c = few_nodes
