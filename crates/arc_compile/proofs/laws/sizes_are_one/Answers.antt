use Rattle.arc_compile.proofs.OneSize.{sizes_are_one}
use Rattle.arc_compile.proofs.laws.sizes_are_one.Goals as goal

pub returns : goal.returns
returns c = sizes_are_one c.levels_are_one.ensures c.main_graphs_are_one.ensures
