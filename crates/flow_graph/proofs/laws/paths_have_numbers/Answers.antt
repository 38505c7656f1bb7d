use Rattle.flow_graph.proofs.Places.{path_numbers}
use Rattle.flow_graph.proofs.laws.paths_have_numbers.Goals as goal

pub returns : goal.returns
returns c = path_numbers
