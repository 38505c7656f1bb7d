use Rattle.flow_graph.proofs.ArcKinds.{unique_number}
use Rattle.flow_graph.proofs.laws.numbers_are_unique.Goals as goal

pub returns : goal.returns
returns c = unique_number
