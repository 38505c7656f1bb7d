use Rattle.label_graph.proofs.ImagePaths.{image-path}
use Rattle.label_graph.proofs.laws.images_keep_contents.Goals as goal

pub returns : goal.returns
returns c = image-path
