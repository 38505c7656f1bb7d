use Rattle.joint_flows.proofs.Tables.{are_sums, has_room}
use Rattle.joint_flows.proofs.sums.Sums.new.Goals as goal

pub returns-clause-room : goal.returns-clause-room
returns-clause-room c = has_room c.args.instance.now c.args.graph.now c.args.values.now c.in_ok-inflow.inflow.items c.in_ok-outflow.outflow.items c.in_ok-items.items.items c.node_count-nodes.result c.item_count.result c.node_count-nodes.ensures c.item_count.ensures.value c.in_ok-inflow.ensures c.in_ok-outflow.ensures c.in_ok-items.ensures

pub returns-clause-sums : goal.returns-clause-sums
returns-clause-sums c = are_sums c.args.instance.now c.args.graph.now c.args.values.now c.in_ok-inflow.inflow.items c.in_ok-outflow.outflow.items c.in_ok-items.items.items c.node_count-nodes.result c.item_count.result c.node_count-nodes.ensures c.item_count.ensures.value c.in_ok-inflow.ensures c.in_ok-outflow.ensures c.in_ok-items.ensures
