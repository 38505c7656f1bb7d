-- The program of an instance over its joint graph: a row for each node and each item, a column for each arc.
use Rattle.std.specs.Prelude.{◌≡◌, ◌↔◌, ℕ, ◌+◌, ◌<◌, pos, List, [], ◌∷◌, ◌++◌, All, length, map, decimal, codes}
use Rattle.std.specs.List.{enumerate_from}
use Rattle.packing_laws.specs.Instances.{InstanceValue, IsInstance}
use Rattle.packing_laws.specs.Packings.{Bins, IsPacking, cost_of}
use Rattle.packing_laws.specs.Printed.{units_in}
use Rattle.flow_graph.specs.declared.parts.ArcKind.{ArcKind}
use Rattle.flow_graph.specs.declared.parts.ArcKind.TheVariants.{Bin, Loss, Piece}
use Rattle.flow_model.specs.declared.programs.RowKind.TheVariants.{Equal}
use Rattle.flow_model.specs.declared.programs.Row.{Row}
use Rattle.flow_model.specs.declared.programs.Entry.{Entry}
use Rattle.flow_model.specs.declared.programs.Column.{Column}
use Rattle.flow_model.specs.declared.programs.Program.{Program}
use Rattle.flow_model.specs.Boxes.{upper_of}
use Rattle.flow_model.specs.Flows.{arc_cost, up_to}
use Rattle.flow_model.specs.Models.{arc_name, item_row, moves}
use Rattle.flow_model.specs.Programs.{IsProgram, IsSolution, objective_of}
use Rattle.joint_arcs.specs.Joined.{JointValue, IsJoint, node_count, numbered, target_at}
use Rattle.joint_arcs.specs.Faithful.{GraphOf, IsFaithful}
use Rattle.joint_arcs.specs.Flows.{IsFlow, flow_cost}

-- what comes into node v, less what goes out of it, is nothing
abbrev pub node_row : ℕ → Row
node_row v = record { name = codes "N" ++ decimal v; kind = Equal; right = pos 0 }

-- the rows: those of the nodes, and then those of the items
abbrev pub joint_rows : InstanceValue → JointValue → List Row
joint_rows I g = map node_row (up_to (node_count g)) ++ map (item_row I) (up_to (length I.items))

-- what a unit on an arc adds in the rows; the row of item i comes i rows after that of the last node
abbrev pub entries_of : JointValue → ArcKind → List Entry
entries_of g (Bin t) = moves (target_at g t) 1
entries_of g (Loss t tail head) = moves tail head
entries_of g (Piece t tail head item form) = moves tail head ++ record { row = node_count g + item; value = pos 1 } ∷ []

-- the column of arc a
abbrev pub arc_column : InstanceValue → JointValue → ℕ × ArcKind → Column
arc_column I g arc = record {
  name = arc_name arc.0 arc.1;
  cost = pos (arc_cost I arc.1);
  entries = entries_of g arc.1;
  lower = 0;
  upper = upper_of I arc.1;
}

-- the columns: those of all arcs, by number
abbrev pub joint_columns : InstanceValue → JointValue → List Column
joint_columns I g = map (arc_column I g) (enumerate_from 1 (numbered g))

-- the program of an instance over a joint graph
abbrev pub program_of_joint : InstanceValue → JointValue → Program
program_of_joint I g = record { objective = codes "COST"; rows = joint_rows I g; columns = joint_columns I g }

-- the program keeps the rules of programs
abbrev pub JointModelsArePrograms : Type 0
JointModelsArePrograms = (I : InstanceValue) (g : JointValue) → IsInstance I → IsJoint g → GraphOf I g → IsProgram (program_of_joint I g)

-- the solutions of the program are the flows, at the same cost
pub record SolvesAsFlows (p : Program) (I : InstanceValue) (g : JointValue) : Type 0 where
  pub solutions : (values : List ℕ) → IsSolution p values ↔ IsFlow I g values
  pub objective : (values : List ℕ) → objective_of p values ≡ pos (flow_cost I g values)

-- so it is for each graph of each instance
abbrev pub SolutionsAreFlows : Type 0
SolutionsAreFlows = (I : InstanceValue) (g : JointValue) → IsInstance I → IsJoint g → GraphOf I g → SolvesAsFlows (program_of_joint I g) I g

-- a solution that costs what a packing costs
pub record SolutionOfPacking (p : Program) (I : InstanceValue) (bins : Bins) : Type 0 where
  pub values : List ℕ
  pub solution : IsSolution p values
  pub cost : objective_of p values ≡ pos (cost_of I bins)

-- where the graph is faithful, each packing without empty bins is such a solution
abbrev pub SolvesPackings : Program → InstanceValue → JointValue → Type 0
SolvesPackings p I g = IsFaithful I g → (bins : Bins) → IsPacking I bins → All (λ b. 0 < units_in b.1) bins → SolutionOfPacking p I bins
