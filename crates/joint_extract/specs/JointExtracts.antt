-- The packing that is taken out of a flow of a joint graph.
use Rattle.std.specs.Prelude.{◌≡◌, ℕ, ◌-◌, List, Some, slice_index}
use Rattle.packing_laws.specs.declared.packings.Bin.{Bin}
use Rattle.packing_laws.specs.Instances.{InstanceValue, IsAmong}
use Rattle.packing_laws.specs.Packings.{cost_of}
use Rattle.packing_laws.specs.Printed.{bins_of, IsWrittenPacking}
use Rattle.pattern_extract.specs.Extracts.{bins_of_type}
use Rattle.joint_arcs.specs.Joined.{JointValue}
use Rattle.joint_arcs.specs.Flows.{IsFlow, flow_cost}
use Rattle.joint_flows.specs.JointRows.{FirstBadRow}
use Rattle.joint_extract.specs.declared.extracts.JointFault.{JointFault}
use Rattle.joint_extract.specs.declared.extracts.JointFault.TheVariants.{NotFlow, Memory}

-- a packing that costs what the flow costs: of each type as many bins as its bin arc, which has the number of the type,
-- has units
pub record IsPackingOf (I : InstanceValue) (g : JointValue) (values : List ℕ) (bins : List Bin) : Type 0 where
  pub flow : IsFlow I g values
  pub packing : IsWrittenPacking I bins
  pub cost : cost_of I (bins_of bins) ≡ flow_cost I g values
  pub types : (t : ℕ) → IsAmong t g.types → bins_of_type t bins ≡ slice_index values (t - 1)

-- why there is none: the first row that the values violate. Want of memory may come at any time
abbrev pub IsReason : InstanceValue → JointValue → List ℕ → JointFault → Type 0
IsReason I g values (NotFlow row) = FirstBadRow I g values (Some row)
IsReason I g values Memory = Unit {0}
