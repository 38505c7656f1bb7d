use Rattle.label_graph.proofs.Paths.{weight-bound}
use Rattle.label_graph.proofs.laws.labels_bound_weights.Goals as goal

pub returns : goal.returns
returns c = weight-bound
