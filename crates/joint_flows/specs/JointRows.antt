-- The rows that a flow of a joint graph meets, in their order, and the first that values violate.
use Rattle.std.specs.Prelude.{◌≡◌, ℕ, List, ◌∷◌, ◌++◌, Option, None, Some, All, length, map}
use Rattle.packing_laws.specs.Instances.{InstanceValue}
use Rattle.flow_model.specs.Flows.{up_to}
use Rattle.joint_arcs.specs.Joined.{JointValue, node_count, numbered}
use Rattle.joint_arcs.specs.Flows.{IsBounded, IsConserved, IsFlow, IsServed}
use Rattle.joint_flows.specs.declared.rows.JointRow.{JointRow}
use Rattle.joint_flows.specs.declared.rows.JointRow.TheVariants.{Node, Demand, Bound}

-- the rows in order: nodes, demands, bounds
abbrev pub flow_rows : InstanceValue → JointValue → List JointRow
flow_rows I g = map (λ v. Node v) (up_to (node_count g)) ++ (map (λ i. Demand i) (up_to (length I.items)) ++ map (λ a. Bound a) (up_to (length (numbered g))))

-- the values meet the row
abbrev pub Keeps : InstanceValue → JointValue → List ℕ → JointRow → Type 0
Keeps I g values (Node v) = IsConserved g values v
Keeps I g values (Demand i) = IsServed I g values i
Keeps I g values (Bound a) = IsBounded I g values a

-- the first of these rows, if there is one, that does not hold
abbrev pub FirstBroken : (JointRow → Type 0) → List JointRow → Option JointRow → Type 0
FirstBroken Holds rows None = All Holds rows
FirstBroken Holds rows (Some row) = (before after : List JointRow) × (rows ≡ before ++ row ∷ after) × All Holds before × (Holds row → ⊥)

-- the first row that the values violate, if there is one
abbrev pub FirstBadRow : InstanceValue → JointValue → List ℕ → Option JointRow → Type 0
FirstBadRow I g values bad = FirstBroken (Keeps I g values) (flow_rows I g) bad

-- values that violate no row are a flow, and the other way round
pub record NoBadRowIsFlow : Type 0 where
  pub flow : (I : InstanceValue) (g : JointValue) (values : List ℕ) → length values ≡ length (numbered g) → FirstBadRow I g values None → IsFlow I g values
  pub none : (I : InstanceValue) (g : JointValue) (values : List ℕ) → IsFlow I g values → FirstBadRow I g values None
