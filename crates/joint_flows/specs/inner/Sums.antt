-- Sums of the values of arcs, by node and by item.
use Rattle.std.specs.Prelude.{◌≡◌, ℕ, ◌+◌, ◌≤◌, ◌<◌, ◌==◌, if◌then◌else◌, List, length, slice_index}
use Rattle.packing_laws.specs.Instances.{InstanceValue, IsAmong}
use Rattle.flow_graph.specs.declared.parts.ArcKind.{ArcKind}
use Rattle.flow_graph.specs.declared.parts.ArcKind.TheVariants.{Bin, Loss, Piece}
use Rattle.flow_model.specs.Flows.{carries, weigh_arcs}
use Rattle.joint_arcs.specs.Joined.{JointValue, head_of, node_count, tail_of}
use Rattle.joint_arcs.specs.Flows.{comes_in, goes_out, total_of}
use Rattle.joint_flows.specs.declared.sums.Side.{Side}
use Rattle.joint_flows.specs.declared.sums.Side.TheVariants.{Heads, Tails, Items}

-- the item that an arc carries; 0 where it carries none
abbrev pub item_of : ArcKind → ℕ
item_of (Bin t) = 0
item_of (Loss t tail head) = 0
item_of (Piece t tail head item form) = item

-- the number under which the value of an arc is added up
abbrev pub place_of : Side → JointValue → ArcKind → ℕ
place_of Heads g kind = head_of kind
place_of Tails g kind = tail_of g kind
place_of Items g kind = item_of kind

-- for each number from 0 to a last one the values of the arcs that have it, added up
pub record IsTable (place : ArcKind → ℕ) (last : ℕ) (kinds : List ArcKind) (values : List ℕ) (table : List ℕ) : Type 0 where
  pub size : length table ≡ last + 1
  pub each : (j : ℕ) → j ≤ last → slice_index table j ≡ weigh_arcs (λ kind. if place kind == j then 1 else 0) kinds values

-- tables of what comes into each node, what goes out of it, and what is carried of each item
pub record SumsValue : Type 0 where
  pub inflow : List ℕ
  pub outflow : List ℕ
  pub items : List ℕ

-- the tables have a place for each node and each item
pub record HasRoom (I : InstanceValue) (g : JointValue) (sums : SumsValue) : Type 0 where
  pub inflow : node_count g < length sums.inflow
  pub outflow : node_count g < length sums.outflow
  pub items : length I.items < length sums.items

-- the tables hold the sums of these values
pub record AreSums (I : InstanceValue) (g : JointValue) (values : List ℕ) (sums : SumsValue) : Type 0 where
  pub inflow : (v : ℕ) → IsAmong v (node_count g) → slice_index sums.inflow v ≡ total_of (comes_in v) g values
  pub outflow : (v : ℕ) → IsAmong v (node_count g) → slice_index sums.outflow v ≡ total_of (goes_out g v) g values
  pub items : (i : ℕ) → IsAmong i (length I.items) → slice_index sums.items i ≡ total_of (carries i) g values
