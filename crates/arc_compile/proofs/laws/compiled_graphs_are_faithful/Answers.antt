use Rattle.arc_compile.proofs.FaithfulGraphs.{compiled_graphs_are_faithful}
use Rattle.arc_compile.proofs.laws.compiled_graphs_are_faithful.Goals as goal

pub returns : goal.returns
returns c = compiled_graphs_are_faithful c.level_graphs_are_graphs.ensures c.main_graphs_are_graphs.ensures c.final_graphs_are_graphs.ensures c.final_graphs_are_exact.ensures
