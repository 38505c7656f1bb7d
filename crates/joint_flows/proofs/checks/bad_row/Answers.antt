use Rattle.std.proofs.Common.{Some}
use Rattle.joint_flows.proofs.BrokenRows.{bad_at_node, bad_at_demand, bad_at_bound, answered}
use Rattle.joint_flows.proofs.checks.bad_row.Goals as goal

pub returns-in-Some-clause-first : goal.returns-in-Some-clause-first
returns-in-Some-clause-first c = bad_at_node c.args.instance.now c.args.graph.now c.args.values.now c.in-Some.row (c.in-Some.ensures c.args.instance.now c.args.values.now c.requires.sums)

pub returns-in-Some-clause-none : goal.returns-in-Some-clause-none
returns-in-Some-clause-none c = answered c.args.instance.now c.args.graph.now c.args.values.now (Some c.in-Some.row) c.requires.size (bad_at_node c.args.instance.now c.args.graph.now c.args.values.now c.in-Some.row (c.in-Some.ensures c.args.instance.now c.args.values.now c.requires.sums))

pub returns-in-Some-bad_demand-clause-first : goal.returns-in-Some-bad_demand-clause-first
returns-in-Some-bad_demand-clause-first c = bad_at_demand c.args.instance.now c.args.graph.now c.args.values.now c.in-Some-bad_demand.row (c.in_default.ensures c.args.instance.now c.args.values.now c.requires.sums) (c.in-Some-bad_demand.ensures c.args.graph.now c.args.values.now c.requires.sums)

pub returns-in-Some-bad_demand-clause-none : goal.returns-in-Some-bad_demand-clause-none
returns-in-Some-bad_demand-clause-none c = answered c.args.instance.now c.args.graph.now c.args.values.now (Some c.in-Some-bad_demand.row) c.requires.size (bad_at_demand c.args.instance.now c.args.graph.now c.args.values.now c.in-Some-bad_demand.row (c.in_default.ensures c.args.instance.now c.args.values.now c.requires.sums) (c.in-Some-bad_demand.ensures c.args.graph.now c.args.values.now c.requires.sums))

pub returns-clause-first : goal.returns-clause-first
returns-clause-first c = bad_at_bound c.args.instance.now c.args.graph.now c.args.values.now c.bad_bound.result (c.in_default.ensures c.args.instance.now c.args.values.now c.requires.sums) (c.in_default-bad_demand.ensures c.args.graph.now c.args.values.now c.requires.sums) c.bad_bound.ensures

pub returns-clause-none : goal.returns-clause-none
returns-clause-none c = answered c.args.instance.now c.args.graph.now c.args.values.now c.bad_bound.result c.requires.size (bad_at_bound c.args.instance.now c.args.graph.now c.args.values.now c.bad_bound.result (c.in_default.ensures c.args.instance.now c.args.values.now c.requires.sums) (c.in_default-bad_demand.ensures c.args.graph.now c.args.values.now c.requires.sums) c.bad_bound.ensures)
