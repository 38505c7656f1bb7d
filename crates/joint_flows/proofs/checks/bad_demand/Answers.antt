use Rattle.std.proofs.Common.{rules}
use Rattle.joint_flows.proofs.SumRows.{all_met, first_unmet, met_more}
use Rattle.joint_flows.proofs.checks.bad_demand.Goals as goal

pub returns-then-of_item-from : goal.returns-then-of_item-from
returns-then-of_item-from c = λ g values are. first_unmet g c.args.sums.now c.args.instance.now values are c.loop-index.index (search rules) c.loop-index.invariant (search rules)

pub loop-index-preserved : goal.loop-index-preserved
loop-index-preserved c = met_more c.args.instance.now c.args.sums.now c.loop-index.index c.loop-index.invariant (search rules)

pub returns : goal.returns
returns c = λ g values are. all_met g c.args.sums.now c.args.instance.now values are c.loop-index.index (search rules) c.loop-index.invariant
