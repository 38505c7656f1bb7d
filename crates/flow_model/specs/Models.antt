-- The program of an instance over its numbered arcs: a row for each node and each item, a column for each arc.
use Rattle.std.specs.Prelude.{◌≡◌, ◌↔◌, ℕ, ◌+◌, ◌-◌, ◌==◌, nat_lt, if◌then◌else◌, pos, negsuc, List, [], ◌∷◌, ◌++◌, length, map, take, sum_by, decimal, codes}
use Rattle.std.specs.List.{enumerate_from}
use Rattle.packing_laws.specs.Instances.{InstanceValue, IsInstance, item_at}
use Rattle.flow_graph.specs.declared.parts.ArcKind.{ArcKind}
use Rattle.flow_graph.specs.declared.parts.ArcKind.TheVariants.{Bin, Loss, Piece}
use Rattle.flow_graph.specs.Arcs.{TypeValue, IsFlowGraph, flow_type, numbered}
use Rattle.flow_graph.specs.Faithful.{GraphOf}
use Rattle.flow_model.specs.declared.programs.RowKind.TheVariants.{Equal, Least}
use Rattle.flow_model.specs.declared.programs.Row.{Row}
use Rattle.flow_model.specs.declared.programs.Entry.{Entry}
use Rattle.flow_model.specs.declared.programs.Column.{Column}
use Rattle.flow_model.specs.declared.programs.Program.{Program}
use Rattle.flow_model.specs.Boxes.{upper_of}
use Rattle.flow_model.specs.Flows.{IsFlow, arc_cost, flow_cost, up_to, all_nodes}
use Rattle.flow_model.specs.Programs.{IsProgram, IsSolution, objective_of}

-- the name of the row of node v of type t
abbrev pub node_name : ℕ → ℕ → List ℕ
node_name t v = codes "N" ++ decimal t ++ codes "_" ++ decimal v

-- the name of the row of item i
abbrev pub item_name : ℕ → List ℕ
item_name i = codes "D" ++ decimal i

-- the name of the column of arc a
abbrev pub arc_name : ℕ → ArcKind → List ℕ
arc_name a (Bin t) = codes "Z" ++ decimal a
arc_name a (Loss t tail head) = codes "F" ++ decimal a
arc_name a (Piece t tail head item form) = codes "F" ++ decimal a

-- what comes into a node, less what goes out of it, is nothing
abbrev pub node_row : ℕ → ℕ → Row
node_row t v = record { name = node_name t v; kind = Equal; right = pos 0 }

-- the arcs of an item carry at least its demand
abbrev pub item_row : InstanceValue → ℕ → Row
item_row I i = record { name = item_name i; kind = Least; right = pos (item_at I i).demand }

-- the rows: those of the nodes of all types, and then those of the items
abbrev pub model_rows : InstanceValue → List TypeValue → List Row
model_rows I g = map (λ node. node_row node.0 node.1) (all_nodes g) ++ map (item_row I) (up_to (length I.items))

-- the number of the row of node v of type t
abbrev pub node_place : List TypeValue → ℕ → ℕ → ℕ
node_place g t v = sum_by (λ x. x.nodes) (take (t - 1) g) + v

-- the number of the row of item i
abbrev pub item_place : List TypeValue → ℕ → ℕ
item_place g i = sum_by (λ x. x.nodes) g + i

-- a unit leaves one row and enters another, in the order of the rows; within one row it does nothing
abbrev pub moves : ℕ → ℕ → List Entry
moves tail head =
    if tail == head then []
    else (if nat_lt tail head
    then record { row = tail; value = negsuc 0 } ∷ record { row = head; value = pos 1 } ∷ []
    else record { row = head; value = pos 1 } ∷ record { row = tail; value = negsuc 0 } ∷ [])

-- what a unit on an arc adds in the rows
abbrev pub entries_of : List TypeValue → ArcKind → List Entry
entries_of g (Bin t) = moves (node_place g t (flow_type g t).nodes) (node_place g t 1)
entries_of g (Loss t tail head) = moves (node_place g t tail) (node_place g t head)
entries_of g (Piece t tail head item form) = moves (node_place g t tail) (node_place g t head) ++ record { row = item_place g item; value = pos 1 } ∷ []

-- the column of arc a
abbrev pub arc_column : InstanceValue → List TypeValue → ℕ × ArcKind → Column
arc_column I g arc = record {
  name = arc_name arc.0 arc.1;
  cost = pos (arc_cost I arc.1);
  entries = entries_of g arc.1;
  lower = 0;
  upper = upper_of I arc.1;
}

-- the columns: those of all arcs, by number
abbrev pub model_columns : InstanceValue → List TypeValue → List Column
model_columns I g = map (arc_column I g) (enumerate_from 1 (numbered g))

-- the program of an instance over a graph
abbrev pub program_of_model : InstanceValue → List TypeValue → Program
program_of_model I g = record { objective = codes "COST"; rows = model_rows I g; columns = model_columns I g }

-- the program of a model keeps the rules of programs
abbrev pub ModelsArePrograms : Type 0
ModelsArePrograms = (I : InstanceValue) (g : List TypeValue) → IsInstance I → IsFlowGraph g → GraphOf I g → IsProgram (program_of_model I g)

-- the solutions of the program are the flows, and the objective is what the bins cost
pub record SolutionsAreFlows : Type 0 where
  pub solutions : (I : InstanceValue) (g : List TypeValue) (values : List ℕ) → IsInstance I → IsFlowGraph g → GraphOf I g → IsSolution (program_of_model I g) values ↔ IsFlow I g values
  pub objective : (I : InstanceValue) (g : List TypeValue) (values : List ℕ) → objective_of (program_of_model I g) values ≡ pos (flow_cost I g values)
