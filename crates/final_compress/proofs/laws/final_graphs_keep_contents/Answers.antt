use Rattle.final_compress.proofs.FinalPaths.{finals_keep_contents}
use Rattle.final_compress.proofs.laws.final_graphs_keep_contents.Goals as goal

pub returns : goal.returns
returns c = finals_keep_contents c.images_keep_contents.ensures
