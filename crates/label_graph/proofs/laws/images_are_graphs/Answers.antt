use Rattle.label_graph.proofs.ImageGraphs.{image-graph}
use Rattle.label_graph.proofs.laws.images_are_graphs.Goals as goal

pub returns : goal.returns
returns c = image-graph
