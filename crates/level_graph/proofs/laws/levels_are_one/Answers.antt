use Rattle.level_graph.proofs.Uniqueness.{one_level_graph}
use Rattle.level_graph.proofs.laws.levels_are_one.Goals as goal

pub returns : goal.returns
returns c = one_level_graph
