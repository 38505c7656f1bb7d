use Rattle.level_graph.proofs.CutLevels.{cuts_keep_level}
use Rattle.level_graph.proofs.laws.cuts_keep_level_graphs.Goals as goal

pub returns : goal.returns
returns c = cuts_keep_level
