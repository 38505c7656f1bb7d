use Rattle.std.proofs.Common.{Some}
use Rattle.flow_model.proofs.BrokenRows.{bad_at_node, bad_at_demand, bad_at_bound, answered}
use Rattle.flow_model.proofs.checks.first_bad.Goals as goal

pub returns-in-Some-clause-first : goal.returns-in-Some-clause-first
returns-in-Some-clause-first c = bad_at_node c.args.instance.now c.args.graph.now c.args.flow.now.values c.in-Some.row c.in-Some.ensures

pub returns-in-Some-clause-none : goal.returns-in-Some-clause-none
returns-in-Some-clause-none c = answered c.args.instance.now c.args.graph.now c.args.flow.now.values (Some c.in-Some.row) c.requires.size (bad_at_node c.args.instance.now c.args.graph.now c.args.flow.now.values c.in-Some.row c.in-Some.ensures)

pub returns-in-Some-bad_demand-clause-first : goal.returns-in-Some-bad_demand-clause-first
returns-in-Some-bad_demand-clause-first c = bad_at_demand c.args.instance.now c.args.graph.now c.args.flow.now.values c.in-Some-bad_demand.row c.in_default.ensures c.in-Some-bad_demand.ensures

pub returns-in-Some-bad_demand-clause-none : goal.returns-in-Some-bad_demand-clause-none
returns-in-Some-bad_demand-clause-none c = answered c.args.instance.now c.args.graph.now c.args.flow.now.values (Some c.in-Some-bad_demand.row) c.requires.size (bad_at_demand c.args.instance.now c.args.graph.now c.args.flow.now.values c.in-Some-bad_demand.row c.in_default.ensures c.in-Some-bad_demand.ensures)

pub returns-clause-first : goal.returns-clause-first
returns-clause-first c = bad_at_bound c.args.instance.now c.args.graph.now c.args.flow.now.values c.bad_bound.result c.in_default.ensures c.in_default-bad_demand.ensures c.bad_bound.ensures

pub returns-clause-none : goal.returns-clause-none
returns-clause-none c = answered c.args.instance.now c.args.graph.now c.args.flow.now.values c.bad_bound.result c.requires.size (bad_at_bound c.args.instance.now c.args.graph.now c.args.flow.now.values c.bad_bound.result c.in_default.ensures c.in_default-bad_demand.ensures c.bad_bound.ensures)
