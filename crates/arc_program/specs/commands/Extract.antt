-- What `extract` owes: the packing of a flow that the second text gives, or why the text gives none.
use Rattle.std.specs.Prelude.{◌≡◌, ◌⊎◌, ℕ, ◌≤◌, List, length, Some, IfSome, Ok, Err}
use Rattle.arc_num.specs.declared.TheConstants.{MAX_INSTANCE}
use Rattle.arc_io.specs.Bytes.{Told}
use Rattle.packing_laws.specs.declared.packings.Bin.{Bin}
use Rattle.packing_laws.specs.Instances.{InstanceValue}
use Rattle.packing_laws.specs.Packings.{cost_of}
use Rattle.packing_laws.specs.Printed.{bins_of, IsWrittenPacking}
use Rattle.flow_graph.specs.Arcs.{TypeValue}
use Rattle.flow_model.specs.declared.flows.FlowRow.{FlowRow}
use Rattle.flow_model.specs.Flows.{IsFlow, FirstBadRow, flow_cost}
use Rattle.pattern_extract.specs.Extracts.{IsPackingOf}
use Rattle.solution_text.specs.declared.faults.SolutionFault.{SolutionFault}
use Rattle.solution_text.specs.Solutions.{solution_meaning}
use Rattle.arc_compile.specs.declared.results.TypeSize.{TypeSize}
use Rattle.arc_compile.specs.Compiled.{AreCompiled}
use Rattle.arc_compile.specs.Graphs.{IsSmall}
use Rattle.arc_program.specs.declared.status.Status.{Status}
use Rattle.arc_program.specs.declared.status.Status.TheVariants.{Done}
use Rattle.arc_program.specs.Printing.{Line}
use Rattle.arc_program.specs.Requests.{IsLong}
use Rattle.arc_program.specs.Reports.{packing_text}
use Rattle.arc_program.specs.Refusals.{named_line, long_line}
use Rattle.arc_program.specs.Rejections.{fault_said, row_said}
use Rattle.arc_program.specs.Kept.{IsKept}

-- the graph to which the instance is compiled
abbrev pub IsCompiled : InstanceValue → List TypeValue → Type 0
IsCompiled I g = (sizes : List TypeSize) × AreCompiled I g sizes

-- the bytes are not too many, and mean these values of the arcs
abbrev pub Gives : List TypeValue → List ℕ → List ℕ → Type 0
Gives g values bytes = (length bytes ≤ MAX_INSTANCE) × (solution_meaning g bytes ≡ Ok values)

-- the bytes are not too many, and have this fault
abbrev pub HasFault : List TypeValue → SolutionFault → List ℕ → Type 0
HasFault g fault bytes = (length bytes ≤ MAX_INSTANCE) × (solution_meaning g bytes ≡ Err fault)

-- the text is the report on a packing. The second text gives a flow over the graph of the instance, the packing is taken out of
-- this flow, and it is printed by its kept lines, which are a packing too; all three cost the same
pub record IsExtracted (I : InstanceValue) (second : Told) (status : Status) (text : List ℕ) : Type 0 where
  pub graph : List TypeValue
  pub compiled : IsCompiled I graph
  pub small : IsSmall I
  pub values : List ℕ
  pub given : IfSome second (Gives graph values)
  pub found : List Bin
  pub packing_of : IsPackingOf I graph values found
  pub bins : List Bin
  pub kept : IsKept I found bins
  pub packing : IsWrittenPacking I bins
  pub cost : cost_of I (bins_of bins) ≡ flow_cost I graph values
  pub text_is : text ≡ packing_text (flow_cost I graph values) bins
  pub status_is : status ≡ Done

-- the bytes give a flow over the graph of the instance
pub record GivesFlow (I : InstanceValue) (bytes : List ℕ) : Type 0 where
  pub graph : List TypeValue
  pub compiled : IsCompiled I graph
  pub values : List ℕ
  pub given : Gives graph values bytes
  pub flow : IsFlow I graph values

-- a line of the second text is at fault, and is named with its cause
pub record HasBadLine (I : InstanceValue) (name : List ℕ) (second : Told) (line : Line) : Type 0 where
  pub graph : List TypeValue
  pub compiled : IsCompiled I graph
  pub fault : SolutionFault
  pub given : IfSome second (HasFault graph fault)
  pub line_is : line ≡ named_line name (fault_said fault)

-- the values that the second text gives violate a row of the model, and the first of these is named
pub record HasBadRow (I : InstanceValue) (name : List ℕ) (second : Told) (line : Line) : Type 0 where
  pub graph : List TypeValue
  pub compiled : IsCompiled I graph
  pub values : List ℕ
  pub given : IfSome second (Gives graph values)
  pub row : FlowRow
  pub first : FirstBadRow I graph values (Some row)
  pub line_is : line ≡ named_line name (row_said graph row)

-- why the second text, under this name, gives no flow, and the line that says so
abbrev pub GivesNoFlow : InstanceValue → List ℕ → Told → Line → Type 0
GivesNoFlow I name second line =
    ((line ≡ long_line name) × IfSome second IsLong) ⊎ (HasBadLine I name second line ⊎ HasBadRow I name second line)
