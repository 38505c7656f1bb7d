use Rattle.main_compress.proofs.MainPaths.{mains_are_one}
use Rattle.main_compress.proofs.laws.main_graphs_are_one.Goals as goal

pub returns : goal.returns
returns c = mains_are_one c.images_are_one.ensures
