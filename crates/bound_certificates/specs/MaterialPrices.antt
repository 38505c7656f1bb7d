-- Prices that show the material bound: a unit of an item is worth what it weighs at least in one dimension, times the cost of
-- the type that has the most room there for its cost.
use Rattle.std.specs.Prelude.{◌≡◌, ℕ, ◌-◌, ◌*◌, ◌≤◌, List, [], length, map, filter, nat_lt, slice_index}
use Rattle.packing_laws.specs.declared.instances.Item.{Item}
use Rattle.packing_laws.specs.Instances.{InstanceValue, IsInstance, item_at}
use Rattle.packing_laws.specs.Packings.{cost_at}
use Rattle.packing_laws.specs.Floors.{least_of, material_of, room_in, IsGreatestFloor, IsFirstBestType}
use Rattle.flow_graph.specs.Arcs.{TypeValue, IsFlowGraph}
use Rattle.flow_graph.specs.Faithful.{IsFaithful}
use Rattle.flow_model.specs.Flows.{up_to}
use Rattle.cert_text.specs.declared.lines.ItemPrice.{ItemPrice}
use Rattle.cert_text.specs.declared.lines.Prices.{Prices}
use Rattle.cert_text.specs.declared.lines.Claim.TheVariants.{Bound}
use Rattle.cert_text.specs.declared.lines.TreeLine.TheVariants.{Leaf}
use Rattle.cert_text.specs.Lines.{ArePrices}
use Rattle.cert_laws.specs.Rules.{Box, NamesArcs, NamesItems}
use Rattle.cert_laws.specs.Shown.{Closes}

-- what a unit of an item weighs at least in dimension d, in its lightest form there
abbrev pub lightest : ℕ → Item → ℕ
lightest d x = least_of (map (λ v. slice_index v (d - 1)) x.forms)

-- the price of item i where a bin of the chosen type costs c
abbrev pub weight_price : InstanceValue → ℕ → ℕ → ℕ → ItemPrice
weight_price I d c i = record { item = i; price = lightest d (item_at I i) * c }

-- the prices of all items in order, but for those of 0
abbrev pub weight_prices : InstanceValue → ℕ → ℕ → List ItemPrice
weight_prices I d c = filter (λ x. nat_lt 0 x.price) (map (weight_price I d c) (up_to (length I.items)))

-- where the material bound is 0, a scale of 1 without prices; else the prices by weight in the first dimension of greatest
-- floor, where the scale is the room of the first type there with the most room for its cost
pub data IsMaterialPrices (I : InstanceValue) (p : Prices) : Type 0 where
  none : material_of I ≡ 0 → p ≡ record { scale = 1; items = []; arcs = [] } → IsMaterialPrices I p
  some : (d t : ℕ) → IsGreatestFloor I d → IsFirstBestType I d t → p ≡ record { scale = room_in I d t; items = weight_prices I d (cost_at I t); arcs = [] } → IsMaterialPrices I p

-- the prices are some that a line can tell, name items and arcs that exist, and close every box of every faithful graph for a bound
pub record ClosesAll (I : InstanceValue) (p : Prices) (bound : ℕ) : Type 0 where
  pub prices : ArePrices p
  pub items : NamesItems I (Leaf p)
  pub arcs : (g : List TypeValue) → NamesArcs g (Leaf p)
  pub closes : (g : List TypeValue) → IsFlowGraph g → IsFaithful I g → (box : Box) → Closes I g p box (Bound bound)

-- material prices close every box for each bound that the material bound reaches
abbrev pub MaterialPricesClose : Type 0
MaterialPricesClose = (I : InstanceValue) (p : Prices) (bound : ℕ) → IsInstance I → IsMaterialPrices I p → bound ≤ material_of I → ClosesAll I p bound
