use Rattle.flow_graph.proofs.Ways.{IsPath-append}
use Rattle.flow_graph.proofs.laws.paths_join.Goals as goal

pub returns : goal.returns
returns c = IsPath-append
