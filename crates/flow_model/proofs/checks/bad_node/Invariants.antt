use Rattle.std.proofs.Common.{map, take, All}
use Rattle.flow_model.specs.declared.flows.FlowRow.TheVariants.{Node}
use Rattle.flow_model.specs.Flows.{Keeps, nodes_from}
use Rattle.flow_model.proofs.checks.bad_node.Given as goal

abbrev pub invariant-loop-t : goal.invariant-loop-t
invariant-loop-t l = All (Keeps l.instance l.graph l.flow.values) (map (λ node. Node node.0 node.1) (nodes_from 1 (take l.t l.graph)))
