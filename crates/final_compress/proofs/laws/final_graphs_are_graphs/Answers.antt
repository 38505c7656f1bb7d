use Rattle.final_compress.proofs.FinalPaths.{finals_are_graphs}
use Rattle.final_compress.proofs.laws.final_graphs_are_graphs.Goals as goal

pub returns : goal.returns
returns c = finals_are_graphs c.images_are_graphs.ensures c.labels_bound_weights.ensures
