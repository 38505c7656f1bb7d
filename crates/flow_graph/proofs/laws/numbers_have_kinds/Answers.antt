use Rattle.flow_graph.proofs.ArcKinds.{kind_at}
use Rattle.flow_graph.proofs.laws.numbers_have_kinds.Goals as goal

pub returns : goal.returns
returns c = kind_at
