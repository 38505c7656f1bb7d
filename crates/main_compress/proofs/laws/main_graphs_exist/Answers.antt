use Rattle.main_compress.proofs.MainsExist.{mains_exist}
use Rattle.main_compress.proofs.laws.main_graphs_exist.Goals as goal

pub returns : goal.returns
returns c = mains_exist c.images_exist.ensures
