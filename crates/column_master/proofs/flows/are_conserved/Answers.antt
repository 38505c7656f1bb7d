use Rattle.column_master.proofs.ToldFlows.{conserved_if}
use Rattle.column_master.proofs.flows.are_conserved.Goals as goal

pub returns-clause-value : goal.returns-clause-value
returns-clause-value c = conserved_if c.args.instance.now c.args.graph.now c.args.flow.now.values c.first_bad-bad.result c.is_no_node.result c.is_no_node.ensures c.first_bad-bad.ensures.first
