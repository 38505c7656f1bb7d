use Rattle.main_compress.proofs.MainPaths.{mains_keep_contents}
use Rattle.main_compress.proofs.laws.main_graphs_keep_contents.Goals as goal

pub returns : goal.returns
returns c = mains_keep_contents c.images_keep_contents.ensures
