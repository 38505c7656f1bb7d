use Rattle.std.proofs.Common.{◌≡◌, ◌++◌, map}
use Rattle.flow_model.specs.Flows.{up_to}
use Rattle.joint_model.specs.JointModels.{node_row}
use Rattle.joint_model.proofs.models.push_node_rows.Given as goal

abbrev pub invariant-loop-node : goal.invariant-loop-node
invariant-loop-node l = l.rows.items ≡ l.initial.rows.items ++ map node_row (up_to l.node)
