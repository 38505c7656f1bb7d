use Rattle.final_compress.proofs.FinalPaths.{finals_are_one}
use Rattle.final_compress.proofs.laws.final_graphs_are_one.Goals as goal

pub returns : goal.returns
returns c = finals_are_one c.images_are_one.ensures
