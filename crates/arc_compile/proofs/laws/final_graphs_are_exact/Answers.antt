use Rattle.arc_compile.proofs.ExactGraphs.{final_graphs_are_exact}
use Rattle.arc_compile.proofs.laws.final_graphs_are_exact.Goals as goal

pub returns : goal.returns
returns c = final_graphs_are_exact c.level_graphs_are_graphs.ensures c.choices_have_one_path.ensures c.main_graphs_are_graphs.ensures c.main_paths_fit.ensures c.main_graphs_keep_contents.ensures c.final_graphs_are_graphs.ensures c.final_paths_weigh_no_more.ensures c.final_graphs_keep_contents.ensures
