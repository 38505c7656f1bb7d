use Rattle.flow_graph.proofs.Ways.{on_path}
use Rattle.flow_graph.proofs.laws.nodes_lie_on_paths.Goals as goal

pub returns : goal.returns
returns c = on_path
