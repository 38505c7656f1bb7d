use Rattle.std.proofs.Common.{◌≡◌, map, take}
use Rattle.flow_model.specs.Models.{node_row}
use Rattle.flow_model.specs.Flows.{nodes_from}
use Rattle.flow_model.proofs.models.rows.Given as goal

abbrev pub invariant-loop-t : goal.invariant-loop-t
invariant-loop-t l = l.rows.items ≡ map (λ node. node_row node.0 node.1) (nodes_from 1 (take l.t l.graph))
