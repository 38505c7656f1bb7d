-- What is said of a solution that is refused.
use Rattle.std.specs.Prelude.{ℕ, List, [], ◌++◌, Option, None, Some, codes, decimal}
use Rattle.flow_graph.specs.declared.parts.ArcKind.{ArcKind}
use Rattle.flow_graph.specs.Arcs.{TypeValue, arc_at}
use Rattle.flow_model.specs.declared.flows.FlowRow.{FlowRow}
use Rattle.flow_model.specs.declared.flows.FlowRow.TheVariants.{Node, Demand, Bound}
use Rattle.flow_model.specs.Models.{node_name, item_name, arc_name}
use Rattle.solution_text.specs.declared.faults.SolutionFault.{SolutionFault}
use Rattle.solution_text.specs.declared.faults.SolutionFault.TheVariants.{Fields, NoColumn, Value, Twice, Memory}

-- of a line of the text, by its number
abbrev pub line_said : ℕ → List ℕ → List ℕ
line_said line said = codes "line " ++ decimal line ++ codes ": " ++ said

-- of the first line at fault
abbrev pub fault_said : SolutionFault → List ℕ
fault_said (Fields line) = line_said line (codes "wrong number of fields")
fault_said (NoColumn line) = line_said line (codes "no such column")
fault_said (Value line) = line_said line (codes "bad value")
fault_said (Twice line) = line_said line (codes "column given twice")
fault_said Memory = codes "out of memory"

-- the name of an arc's column, where there is this arc
abbrev pub name_of_kind : ℕ → Option ArcKind → List ℕ
name_of_kind a None = []
name_of_kind a (Some kind) = arc_name a kind

-- the name of the column of the arc with this number
abbrev pub column_name : List TypeValue → ℕ → List ℕ
column_name g a = name_of_kind a (arc_at g a)

-- of a row of the model, or of the bound of a column
abbrev pub row_said : List TypeValue → FlowRow → List ℕ
row_said g (Node t v) = codes "row " ++ node_name t v ++ codes " is violated"
row_said g (Demand i) = codes "row " ++ item_name i ++ codes " is violated"
row_said g (Bound a) = codes "bound of " ++ column_name g a ++ codes " is violated"
