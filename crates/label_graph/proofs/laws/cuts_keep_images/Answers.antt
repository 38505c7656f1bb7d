use Rattle.label_graph.proofs.Cutting.{cut-image}
use Rattle.label_graph.proofs.laws.cuts_keep_images.Goals as goal

pub returns : goal.returns
returns c = cut-image
