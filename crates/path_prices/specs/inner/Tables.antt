-- Prices laid out in tables, by place from 0, and bounds of signed numbers.
use Rattle.std.specs.Prelude.{◌≡◌, ℕ, ◌+◌, ◌<◌, ◌≤◌, ℤ, pos, ◌-ℤ◌, ◌≤ℤ◌, unsigned_abs, List, All, length, slice_index, slice_index_or}
use Rattle.cert_text.specs.declared.lines.ItemPrice.{ItemPrice}
use Rattle.arc_num.specs.declared.TheConstants.{MAX_PRICE}
use Rattle.cert_text.specs.declared.lines.ArcPrice.{ArcPrice}
use Rattle.cert_text.specs.declared.lines.Prices.{Prices}
use Rattle.path_prices.specs.Gains.{item_price_in, arc_price_in}
use Rattle.path_prices.specs.Scratches.{ScratchValue}

-- the table holds the prices of these items
abbrev pub HoldsItems : List ItemPrice → List ℕ → Type 0
HoldsItems prices table = (k : ℕ) → k < length table → slice_index table k ≡ item_price_in prices (k + 1)

-- the table holds the prices of these arcs
abbrev pub HoldsArcs : List ArcPrice → List ℤ → Type 0
HoldsArcs prices table = (k : ℕ) → k < length table → slice_index_or table k (pos 0) ≡ arc_price_in prices (k + 1)

-- the number is at most so large in size
pub record IsWithin (bound : ℕ) (z : ℤ) : Type 0 where
  pub low : (pos 0 -ℤ pos bound) ≤ℤ z
  pub high : z ≤ℤ pos bound

-- each number of a list is
abbrev pub AreWithin : ℕ → List ℤ → Type 0
AreWithin bound zs = (k : ℕ) → IsWithin bound (slice_index_or zs k (pos 0))

-- the tables hold the prices of items and arcs
pub record AreLaid (p : Prices) (items : List ℕ) (arcs : List ℤ) : Type 0 where
  pub items_laid : HoldsItems p.items items
  pub arcs_laid : HoldsArcs p.arcs arcs

-- the tables hold no price
pub record AreClear (items : List ℕ) (arcs : List ℤ) : Type 0 where
  pub no_item : (k : ℕ) → slice_index items k ≡ 0
  pub no_arc : (k : ℕ) → slice_index_or arcs k (pos 0) ≡ pos 0

-- no price of the tables is too large
pub record AreSmall (items : List ℕ) (arcs : List ℤ) : Type 0 where
  pub small_items : All (λ x. x ≤ MAX_PRICE) items
  pub small_arcs : All (λ x. unsigned_abs x ≤ MAX_PRICE) arcs

-- the room of tables of prices and of a table of values
abbrev pub room_of : List ℕ → List ℤ → List ℤ → ScratchValue
room_of items arcs values = record { items = length items; arcs = length arcs; nodes = length values }
