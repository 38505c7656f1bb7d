use Rattle.std.proofs.Common.{rules}
use Rattle.joint_flows.proofs.SumRows.{all_even, even_more, first_uneven}
use Rattle.joint_flows.proofs.checks.bad_node.Goals as goal

pub returns-then-into_node-out_of_node : goal.returns-then-into_node-out_of_node
returns-then-into_node-out_of_node c = λ I values are. first_uneven c.args.graph.now c.args.sums.now I values are c.loop-index.index (search rules) c.loop-index.invariant (search rules)

pub loop-index-preserved : goal.loop-index-preserved
loop-index-preserved c = even_more c.args.sums.now c.loop-index.index c.loop-index.invariant (search rules)

pub returns : goal.returns
returns c = λ I values are. all_even c.args.graph.now c.args.sums.now I values are c.loop-index.index (search rules) c.loop-index.invariant
