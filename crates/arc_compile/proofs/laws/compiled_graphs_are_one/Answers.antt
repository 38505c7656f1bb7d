use Rattle.arc_compile.proofs.OneCompiled.{compiled_graphs_are_one}
use Rattle.arc_compile.proofs.laws.compiled_graphs_are_one.Goals as goal

pub returns : goal.returns
returns c = compiled_graphs_are_one c.levels_are_one.ensures c.main_graphs_are_one.ensures c.final_graphs_are_one.ensures
