use Rattle.flow_graph.proofs.Places.{has_numbers, some_type}
use Rattle.flow_graph.proofs.laws.numbers_are_arcs.Goals as goal

pub returns : goal.returns
returns c = record { types = has_numbers; numbers = some_type }
