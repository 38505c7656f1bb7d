-- Packings as flows of a joint graph.
use Rattle.std.specs.Prelude.{◌≡◌, ℕ, ◌<◌, List, All}
use Rattle.packing_laws.specs.Instances.{InstanceValue, IsInstance}
use Rattle.packing_laws.specs.Packings.{Bins, IsPacking, cost_of}
use Rattle.packing_laws.specs.Printed.{units_in}
use Rattle.joint_arcs.specs.Joined.{JointValue, IsJoint}
use Rattle.joint_arcs.specs.Faithful.{IsFaithful}
use Rattle.joint_arcs.specs.Flows.{IsFlow, flow_cost}

-- a flow that costs what a packing costs
pub record FlowOfPacking (I : InstanceValue) (g : JointValue) (bins : Bins) : Type 0 where
  pub values : List ℕ
  pub flow : IsFlow I g values
  pub cost : flow_cost I g values ≡ cost_of I bins

-- each packing without empty bins is such a flow
abbrev pub PackingsAreFlows : Type 0
PackingsAreFlows = (I : InstanceValue) (g : JointValue) (bins : Bins) → IsInstance I → IsJoint g → IsFaithful I g → IsPacking I bins → All (λ b. 0 < units_in b.1) bins → FlowOfPacking I g bins
