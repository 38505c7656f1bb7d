use Rattle.level_graph.proofs.LevelGraphs.{is_graph_within}
use Rattle.level_graph.proofs.laws.level_graphs_are_graphs.Goals as goal

pub returns : goal.returns
returns c = is_graph_within
