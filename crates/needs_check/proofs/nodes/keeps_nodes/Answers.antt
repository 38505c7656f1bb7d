use Rattle.needs_check.proofs.NodeRows.{conserved_where}
use Rattle.needs_check.proofs.nodes.keeps_nodes.Goals as goal

pub returns-clause-value : goal.returns-clause-value
returns-clause-value c = conserved_where c.args.instance.now c.args.graph.now c.args.flow.now.values c.first_bad.result c.names_no_node.result c.names_no_node.ensures c.first_bad.ensures.first
