use Rattle.label_graph.proofs.Paths.{on_path}
use Rattle.label_graph.proofs.laws.nodes_lie_on_paths.Goals as goal

pub returns : goal.returns
returns c = on_path
