-- Rows of the model that a flow may violate first.
use Rattle.std.specs.Prelude.{Bool, true, false, Option, None, Some}
use Rattle.flow_model.specs.declared.flows.FlowRow.{FlowRow}
use Rattle.flow_model.specs.declared.flows.FlowRow.TheVariants.{Node, Demand, Bound}

-- there is no such row, or it is none of a node
abbrev pub names_no_node : Option FlowRow → Bool
names_no_node None = true
names_no_node (Some (Node t v)) = false
names_no_node (Some (Demand i)) = true
names_no_node (Some (Bound a)) = true
