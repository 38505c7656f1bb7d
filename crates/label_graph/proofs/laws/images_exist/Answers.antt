use Rattle.label_graph.proofs.ImagesExist.{images_exist}
use Rattle.label_graph.proofs.laws.images_exist.Goals as goal

pub returns : goal.returns
returns c = images_exist
