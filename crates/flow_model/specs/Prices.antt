-- Prices of arcs in signed whole numbers, by number of the arc, and what values and ways are worth at them.
use Rattle.std.specs.Prelude.{◌≡◌, ℕ, ◌+◌, ℤ, pos, ◌+ℤ◌, ◌*ℤ◌, List, [], ◌∷◌, All, length, map}
use Rattle.packing_laws.specs.Instances.{IsAmong}
use Rattle.packing_laws.specs.Packings.{Bins}
use Rattle.flow_graph.specs.Arcs.{TypeValue, numbered}
use Rattle.flow_graph.specs.Balance.{AreBalanced}
use Rattle.flow_model.specs.Packed.{IsSumOfPaths}
use Rattle.flow_model.specs.Flows.{AreConserved}

-- the prices of the arcs from number n on, each times the value of its arc, added up
abbrev pub price_from : (ℕ → ℤ) → ℕ → List ℕ → ℤ
price_from price n [] = pos 0
price_from price n (x ∷ values) = (price n *ℤ pos x) +ℤ price_from price (n + 1) values

-- the price of values of all arcs
abbrev pub price_of : (ℕ → ℤ) → List ℕ → ℤ
price_of price values = price_from price 1 values

-- the price of a way: those of its arcs, added up
abbrev pub way_price : (ℕ → ℤ) → List ℕ → ℤ
way_price price [] = pos 0
way_price price (a ∷ way) = price a +ℤ way_price price way

-- the prices of ways, added up
abbrev pub ways_price : (ℕ → ℤ) → List (List ℕ) → ℤ
ways_price price [] = pos 0
ways_price price (way ∷ ways) = way_price price way +ℤ ways_price price ways

-- values that are a sum of paths cost what the ways of the bins cost, the bin arcs included
abbrev pub PricesAddUp : Type 0
PricesAddUp = (g : List TypeValue) (bins : Bins) (values : List ℕ) (price : ℕ → ℤ) → length values ≡ length (numbered g) → All (λ b. IsAmong b.0 (length g)) bins → (is : IsSumOfPaths g bins values) → price_of price values ≡ ways_price price is.ways

-- values are conserved where they are balanced as signed numbers, and the other way round
pub record ConservedIsBalanced : Type 0 where
  pub signed : (g : List TypeValue) (values : List ℕ) → AreConserved g values → AreBalanced g (map pos values)
  pub whole : (g : List TypeValue) (values : List ℕ) → AreBalanced g (map pos values) → AreConserved g values
