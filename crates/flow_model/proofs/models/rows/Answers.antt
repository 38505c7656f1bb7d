use Rattle.std.proofs.Common.{◌<◌, length, rules}
use Rattle.flow_model.proofs.RowLists.{node_rows_more}
use Rattle.flow_model.proofs.models.rows.Goals as goal

pub loop-t-preserved : goal.loop-t-preserved
loop-t-preserved c =
    let within : c.loop-t.t < length c.args.graph.now = search rules in
    node_rows_more c.args.graph.now c.loop-t.t c.loop-t.rows.items c.push_node_rows.new.rows.items within c.loop-t.invariant (search rules)
