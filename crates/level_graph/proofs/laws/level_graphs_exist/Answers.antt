use Rattle.level_graph.proofs.LevelsExist.{levels_exist}
use Rattle.level_graph.proofs.laws.level_graphs_exist.Goals as goal

pub returns : goal.returns
returns c = levels_exist
