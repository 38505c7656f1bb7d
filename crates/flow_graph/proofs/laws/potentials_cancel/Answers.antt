use Rattle.flow_graph.proofs.Potentials.{potentials_cancel as cancel}
use Rattle.flow_graph.proofs.laws.potentials_cancel.Goals as goal

pub returns : goal.returns
returns c = cancel
