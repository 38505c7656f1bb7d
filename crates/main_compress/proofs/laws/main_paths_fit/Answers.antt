use Rattle.main_compress.proofs.MainPaths.{mains_fit}
use Rattle.main_compress.proofs.laws.main_paths_fit.Goals as goal

pub returns : goal.returns
returns c = mains_fit c.main_graphs_are_graphs.ensures c.labels_bound_weights.ensures
