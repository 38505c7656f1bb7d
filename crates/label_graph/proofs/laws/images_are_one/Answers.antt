use Rattle.label_graph.proofs.OneImage.{one-image}
use Rattle.label_graph.proofs.laws.images_are_one.Goals as goal

pub returns : goal.returns
returns c = one-image
