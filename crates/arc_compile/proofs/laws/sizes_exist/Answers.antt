use Rattle.arc_compile.proofs.SizesExist.{sizes_exist}
use Rattle.arc_compile.proofs.laws.sizes_exist.Goals as goal

pub returns : goal.returns
returns c = sizes_exist c.level_graphs_are_graphs.ensures c.level_graphs_exist.ensures c.main_graphs_exist.ensures
