use Rattle.column_master.proofs.ToldFlows.{nothing_flows}
use Rattle.column_master.proofs.flows.nothing.Goals as goal

pub returns : goal.returns
returns c = nothing_flows c.args.graph.now c.empty.result c.empty.ensures
