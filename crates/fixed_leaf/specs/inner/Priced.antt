-- Why values of arcs are no flow in a box, and the prices that show it.
use Rattle.std.specs.Prelude.{◌≡◌, ℕ, zero, suc, ◌+◌, ◌*◌, ◌^◌, ◌<◌, ◌≤◌, true, ◌==◌, if◌then◌else◌, ℤ, pos, negsuc, ◌+ℤ◌, ◌-ℤ◌, ◌≤ℤ◌, ◌<ℤ◌, unsigned_abs, List, [], ◌∷◌, Option, None, Some, length, slice_index_or}
use Rattle.packing_laws.specs.Instances.{InstanceValue, IsAmong}
use Rattle.flow_graph.specs.declared.parts.ArcKind.{ArcKind}
use Rattle.flow_graph.specs.declared.parts.ArcKind.TheVariants.{Bin, Loss, Piece}
use Rattle.flow_graph.specs.Arcs.{TypeValue, numbered}
use Rattle.flow_graph.specs.Balance.{value_of}
use Rattle.flow_graph.specs.Chords.{range_at}
use Rattle.flow_model.specs.Flows.{arc_cost}
use Rattle.cert_text.specs.declared.lines.ArcPrice.{ArcPrice}
use Rattle.cert_text.specs.declared.lines.ItemPrice.{ItemPrice}
use Rattle.cert_text.specs.declared.lines.Prices.{Prices}
use Rattle.fixed_leaf.specs.declared.faults.Fault.{Fault}
use Rattle.fixed_leaf.specs.declared.faults.Fault.TheVariants.{Above, Below, Unmet}
use Rattle.fixed_leaf.specs.declared.joints.Joint.{Joint}
use Rattle.fixed_leaf.specs.inner.Nets.{joint_at}

-- an arc, if there is one, whose value is below its range
abbrev pub IsBelow : List (ℕ × ℕ) → List ℤ → Option ℕ → Type 0
IsBelow ranges values None = (a : ℕ) → IsAmong a (length values) → pos (range_at ranges a).0 ≤ℤ value_of values a
IsBelow ranges values (Some a) = IsAmong a (length values) × (value_of values a <ℤ pos (range_at ranges a).0)

-- an arc, if there is one, whose value is above its range
abbrev pub IsAbove : List (ℕ × ℕ) → List ℤ → Option ℕ → Type 0
IsAbove ranges values None = (a : ℕ) → IsAmong a (length values) → value_of values a ≤ℤ pos (range_at ranges a).1
IsAbove ranges values (Some a) = IsAmong a (length values) × (pos (range_at ranges a).1 <ℤ value_of values a)

-- an arc, if there is one, whose value is out of its range
abbrev pub IsRangeFault : List (ℕ × ℕ) → List ℤ → Option Fault → Type 0
IsRangeFault ranges values None = (a : ℕ) → IsAmong a (length values) → (pos (range_at ranges a).0 ≤ℤ value_of values a) × (value_of values a ≤ℤ pos (range_at ranges a).1)
IsRangeFault ranges values (Some (Below a)) = IsAmong a (length values) × (value_of values a <ℤ pos (range_at ranges a).0)
IsRangeFault ranges values (Some (Above a)) = IsAmong a (length values) × (pos (range_at ranges a).1 <ℤ value_of values a)
IsRangeFault ranges values (Some (Unmet i)) = ⊥

-- what a unit on arc a is priced where it is a tree arc: 1 or -1 on the arc whose value is out of its range
abbrev pub own_price : Option Fault → ℕ → ℤ
own_price None a = pos 0
own_price (Some (Below b)) a = if b == a then pos 1 else pos 0
own_price (Some (Above b)) a = if b == a then negsuc 0 else pos 0
own_price (Some (Unmet i)) a = pos 0

-- what an arc is priced for the item that it carries: 1 for one that is carried too seldom
abbrev pub carried_by : Option Fault → ArcKind → ℕ
carried_by None kind = 0
carried_by (Some (Below b)) kind = 0
carried_by (Some (Above b)) kind = 0
carried_by (Some (Unmet i)) (Bin t) = 0
carried_by (Some (Unmet i)) (Loss t tail head) = 0
carried_by (Some (Unmet i)) (Piece t tail head item form) = if i == item then 1 else 0

-- the prices of items
abbrev pub items_for : Option Fault → List ItemPrice
items_for None = []
items_for (Some (Below b)) = []
items_for (Some (Above b)) = []
items_for (Some (Unmet i)) = record { item = i; price = 1 } ∷ []

-- the scale: bins are worth nothing where something is wrong
abbrev pub scale_for : Option Fault → ℕ
scale_for None = 1
scale_for (Some fault) = 0

-- the kind of the arc at a place
abbrev pub kind_in : List ArcKind → ℕ → ArcKind
kind_in row k = slice_index_or row k (Bin 0)

-- the height of the node at a place
abbrev pub height_in : List ℤ → ℕ → ℤ
height_in heights p = slice_index_or heights p (pos 0)

-- along each tree arc nodes rise by what the arc is priced, its item included
pub record AreHeights (row : List ArcKind) (joints : List Joint) (fault : Option Fault) (heights : List ℤ) : Type 0 where
  pub trees : (k : ℕ) → k < length joints → (joint_at joints k).tree ≡ true → height_in heights (joint_at joints k).head ≡ height_in heights (joint_at joints k).tail +ℤ (own_price fault (suc k) +ℤ pos (carried_by fault (kind_in row k)))
  pub small : (p : ℕ) → unsigned_abs (height_in heights p) ≤ 2 ^ 22

-- the price of an arc: what it rises and costs, less what it is priced for its item
abbrev pub price_for : InstanceValue → Option Fault → List ℤ → ArcKind → Joint → ℤ
price_for I fault heights kind joint = ((height_in heights joint.head -ℤ height_in heights joint.tail) +ℤ pos (scale_for fault * arc_cost I kind)) -ℤ pos (carried_by fault kind)

-- prices of all arcs by place
pub record ArePricesOf (I : InstanceValue) (row : List ArcKind) (joints : List Joint) (fault : Option Fault) (heights prices : List ℤ) : Type 0 where
  pub size : length prices ≡ length joints
  pub each : (k : ℕ) → k < length joints → slice_index_or prices k (pos 0) ≡ price_for I fault heights (kind_in row k) (joint_at joints k)
  pub small : (k : ℕ) → unsigned_abs (slice_index_or prices k (pos 0)) ≤ 2 ^ 62

-- the prices that are not 0, where the first stands for the arc with number n
abbrev pub listed_from : ℕ → List ℤ → List ArcPrice
listed_from n [] = []
listed_from n (pos zero ∷ prices) = listed_from (n + 1) prices
listed_from n (pos (suc m) ∷ prices) = record { arc = n; price = pos (suc m) } ∷ listed_from (n + 1) prices
listed_from n (negsuc m ∷ prices) = record { arc = n; price = negsuc m } ∷ listed_from (n + 1) prices

-- the prices are those for a fault, or for none
pub record ArePricesFor (I : InstanceValue) (g : List TypeValue) (joints : List Joint) (fault : Option Fault) (p : Prices) : Type 0 where
  pub heights : List ℤ
  pub prices : List ℤ
  pub rise : AreHeights (numbered g) joints fault heights
  pub are : ArePricesOf I (numbered g) joints fault heights prices
  pub scale : p.scale ≡ scale_for fault
  pub items : p.items ≡ items_for fault
  pub arcs : p.arcs ≡ listed_from 1 prices
