use Rattle.final_compress.proofs.FinalPaths.{finals_weigh_no_more}
use Rattle.final_compress.proofs.laws.final_paths_weigh_no_more.Goals as goal

pub returns : goal.returns
returns c = finals_weigh_no_more c.final_graphs_are_graphs.ensures c.labels_bound_weights.ensures c.nodes_lie_on_paths.ensures
