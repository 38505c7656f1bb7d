use Rattle.main_compress.proofs.MainPaths.{mains_are_graphs}
use Rattle.main_compress.proofs.laws.main_graphs_are_graphs.Goals as goal

pub returns : goal.returns
returns c = mains_are_graphs c.images_are_graphs.ensures
