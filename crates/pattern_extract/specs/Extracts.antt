-- The packing that is taken out of a flow.
use Rattle.std.specs.Prelude.{◌≡◌, ℕ, ◌-◌, ◌==◌, if◌then◌else◌, List, length, map, sum_by, Option, None, Some, slice_index, slice_index_or}
use Rattle.std.specs.List.{filter_map}
use Rattle.packing_laws.specs.declared.packings.Count.{Count}
use Rattle.packing_laws.specs.declared.packings.Bin.{Bin as Alike}
use Rattle.packing_laws.specs.Instances.{InstanceValue, IsAmong}
use Rattle.packing_laws.specs.Packings.{Content, cost_of}
use Rattle.packing_laws.specs.Printed.{bins_of, IsWrittenPacking}
use Rattle.flow_graph.specs.declared.parts.ArcKind.{ArcKind}
use Rattle.flow_graph.specs.declared.parts.ArcKind.TheVariants.{Bin, Loss, Piece}
use Rattle.flow_graph.specs.Arcs.{TypeValue, numbered, first_arc}
use Rattle.flow_model.specs.Flows.{IsFlow, FirstBadRow, flow_cost}
use Rattle.pattern_extract.specs.declared.runs.PathRun.{PathRun}
use Rattle.pattern_extract.specs.Runs.{AreRunsOf}
use Rattle.pattern_extract.specs.Trims.{AreParts}
use Rattle.pattern_extract.specs.declared.extracts.ExtractFault.{ExtractFault}
use Rattle.pattern_extract.specs.declared.extracts.ExtractFault.TheVariants.{NotFlow, Memory}

-- the unit that an arc carries, if it carries one
abbrev pub unit_on : ArcKind → Option Count
unit_on (Bin t) = None
unit_on (Loss t tail head) = None
unit_on (Piece t tail head item form) = Some (record { item = item; form = form; count = 1 })

-- the units that arcs of a row carry, one after the other, where the arcs are given by their numbers
abbrev pub units_along : List ArcKind → List ℕ → Content
units_along kinds numbers = filter_map (λ a. unit_on (slice_index_or kinds (a - 1) (Bin 0))) numbers

-- the bins of a run: of its type, with what its path carries, as often as it is used
abbrev pub bin_of : List TypeValue → PathRun → Alike
bin_of g run = record { bin_type = run.t; times = run.times; counts = units_along (numbered g) run.arcs }

-- how many bins of type t there are
abbrev pub bins_of_type : ℕ → List Alike → ℕ
bins_of_type t bins = sum_by (λ b. if b.bin_type == t then b.times else 0) bins

-- a packing that costs what the flow costs: of each type as many bins as its bin arc has units, and each bin holds at most
-- what the path of a run carries, where the flow is the sum of these runs, and as many bins belong to a run as it is used
pub record IsPackingOf (I : InstanceValue) (g : List TypeValue) (values : List ℕ) (bins : List Alike) : Type 0 where
  pub flow : IsFlow I g values
  pub packing : IsWrittenPacking I bins
  pub cost : cost_of I (bins_of bins) ≡ flow_cost I g values
  pub types : (t : ℕ) → IsAmong t (length g) → bins_of_type t bins ≡ slice_index values (first_arc g t - 1)
  pub runs : List PathRun
  pub are_runs : AreRunsOf g values runs
  pub parts : AreParts (map (bin_of g) runs) bins

-- why there is none: the first row of the model that the values violate. Want of memory may come at any time
abbrev pub IsReason : InstanceValue → List TypeValue → List ℕ → ExtractFault → Type 0
IsReason I g values (NotFlow row) = FirstBadRow I g values (Some row)
IsReason I g values Memory = Unit {0}

-- where the arc carries an item, it is one of n
abbrev pub NamesItem : ℕ → ArcKind → Type 0
NamesItem n (Bin t) = Unit {0}
NamesItem n (Loss t tail head) = Unit {0}
NamesItem n (Piece t tail head item form) = IsAmong item n
