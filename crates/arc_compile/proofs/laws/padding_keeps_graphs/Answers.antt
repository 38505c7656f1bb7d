use Rattle.arc_compile.proofs.PaddedGraphs.{padding_keeps_graphs}
use Rattle.arc_compile.proofs.laws.padding_keeps_graphs.Goals as goal

pub returns : goal.returns
returns c = padding_keeps_graphs c.cuts_keep_level_graphs.ensures c.level_graphs_are_graphs.ensures c.cuts_keep_main_graphs.ensures c.main_graphs_are_graphs.ensures c.cuts_keep_final_graphs.ensures
