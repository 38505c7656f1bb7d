-- What balanced values of all arcs are in a box: a flow, or none for a reason.
use Rattle.std.specs.Prelude.{◌≡◌, ℕ, pos, ◌<ℤ◌, ℤ, List, None, Some, length, map}
use Rattle.packing_laws.specs.Instances.{InstanceValue, IsAmong, item_at}
use Rattle.flow_graph.specs.Arcs.{TypeValue}
use Rattle.flow_graph.specs.Balance.{signed_total}
use Rattle.flow_model.specs.declared.flows.FlowRow.{FlowRow}
use Rattle.flow_model.specs.declared.flows.FlowRow.TheVariants.{Bound, Demand, Node}
use Rattle.flow_model.specs.Flows.{IsFlow, carries, flow_cost}
use Rattle.fixed_leaf.specs.declared.faults.Fault.{Fault}
use Rattle.fixed_leaf.specs.declared.faults.Fault.TheVariants.{Above, Below, Unmet}
use Rattle.fixed_leaf.specs.declared.leaf.Found.{Found}
use Rattle.fixed_leaf.specs.declared.leaf.Found.TheVariants as found
use Rattle.fixed_leaf.specs.declared.leaf.OnlyFlow.{OnlyFlow}
use Rattle.fixed_leaf.specs.inner.Priced.{IsRangeFault}

-- the row is that of a demand
abbrev pub IsDemand : FlowRow → Type 0
IsDemand (Node t v) = ⊥
IsDemand (Demand i) = Unit {0}
IsDemand (Bound a) = ⊥

-- the fault that a violated row of a demand shows
abbrev pub unmet_by : FlowRow → Fault
unmet_by (Node t v) = Unmet 0
unmet_by (Demand i) = Unmet i
unmet_by (Bound a) = Unmet 0

-- why the values are no flow in the box
abbrev pub IsFault : InstanceValue → List TypeValue → List (ℕ × ℕ) → List ℤ → Fault → Type 0
IsFault I g box values (Below a) = IsRangeFault box values (Some (Below a))
IsFault I g box values (Above a) = IsRangeFault box values (Some (Above a))
IsFault I g box values (Unmet i) = IsAmong i (length I.items) × (signed_total (carries i) g values <ℤ pos (item_at I i).demand)

-- the flow that the values are
pub record IsFlowOf (I : InstanceValue) (g : List TypeValue) (box : List (ℕ × ℕ)) (values : List ℤ) (only : OnlyFlow) : Type 0 where
  pub same : map pos only.flow.values ≡ values
  pub flow : IsFlow I g only.flow.values
  pub ranges : IsRangeFault box values None
  pub cost : only.cost ≡ flow_cost I g only.flow.values

-- what the values are
abbrev pub IsFound : InstanceValue → List TypeValue → List (ℕ × ℕ) → List ℤ → Found → Type 0
IsFound I g box values (found.Flow flow) = IsFlowOf I g box values flow
IsFound I g box values (found.Fault fault) = IsFault I g box values fault
