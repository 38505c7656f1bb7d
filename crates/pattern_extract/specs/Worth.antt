-- What a flow is worth.
use Rattle.std.specs.Prelude.{◌≡◌, ℕ, List}
use Rattle.packing_laws.specs.Instances.{InstanceValue, IsInstance}
use Rattle.packing_laws.specs.Packings.{Bins, IsPacking, cost_of}
use Rattle.flow_graph.specs.Arcs.{TypeValue, IsFlowGraph}
use Rattle.flow_graph.specs.Faithful.{IsFaithful}
use Rattle.flow_model.specs.Flows.{IsFlow, flow_cost}

-- a packing that costs what the flow costs
pub record PackingOfFlow (I : InstanceValue) (g : List TypeValue) (values : List ℕ) : Type 0 where
  pub bins : Bins
  pub packing : IsPacking I bins
  pub cost : cost_of I bins ≡ flow_cost I g values

-- each flow is worth such a packing
abbrev pub FlowsArePackings : Type 0
FlowsArePackings = (I : InstanceValue) (g : List TypeValue) (values : List ℕ) → IsInstance I → IsFlowGraph g → IsFaithful I g → IsFlow I g values → PackingOfFlow I g values
