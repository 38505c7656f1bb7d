-- What ways over arcs in a row are worth, and the best of them.
use Rattle.std.specs.Prelude.{◌≡◌, ◌⊎◌, ℕ, suc, ◌+◌, ◌-◌, ◌^◌, ◌<◌, ◌≤◌, ◌==◌, if◌then◌else◌, ℤ, pos, ◌+ℤ◌, ◌-ℤ◌, List, [], ◌∷◌, All, AllPairs, length, slice_index, slice_index_or}
use Rattle.std.specs.Int.{int_max}
use Rattle.cert_text.specs.declared.lines.Prices.{Prices}
use Rattle.flow_graph.specs.declared.parts.TypeArc.{TypeArc}
use Rattle.flow_graph.specs.Arcs.{TypeValue, first_arc, flow_type, last_arc, numbered}
use Rattle.flow_model.specs.Prices.{way_price}
use Rattle.path_prices.specs.Gains.{whole_price}

-- an arc where there is none
abbrev pub no_arc : TypeArc
no_arc = record { tail = 0; head = 0; item = 0; form = 0 }

-- the price of what an arc carries, where the items have these prices
abbrev pub carried_in : List ℕ → TypeArc → ℕ
carried_in items e = if e.item == 0 then 0 else slice_index items (e.item - 1)

-- the whole price of the arc at a place, where the arcs have these prices of their own
abbrev pub price_on : List ℕ → List ℤ → List TypeArc → ℕ → ℤ
price_on items own arcs k = slice_index_or own k (pos 0) +ℤ pos (carried_in items (slice_index_or arcs k no_arc))

-- the best that a way from node v is worth, where it counts the prices of its arcs, the first of which has number n, and
-- what its last node is worth
abbrev pub best_from : (ℕ → ℤ) → (ℕ → ℤ) → ℕ → List TypeArc → ℕ → ℤ
best_from price ends n [] v = ends v
best_from price ends n (e ∷ arcs) v = if e.tail == v then int_max (best_from price ends (suc n) arcs v) (price n +ℤ best_from price ends (suc n) arcs e.head) else best_from price ends (suc n) arcs v

-- the numbers are those of arcs that lead from v to w, each behind the one before, where the first arc has number n
abbrev pub Leads : List TypeArc → ℕ → ℕ → ℕ → List ℕ → Type 0
Leads [] n v w numbers = (numbers ≡ []) × (v ≡ w)
Leads (e ∷ arcs) n v w numbers = Leads arcs (suc n) v w numbers ⊎ ((rest : List ℕ) × (numbers ≡ n ∷ rest) × (e.tail ≡ v) × Leads arcs (suc n) e.head w rest)

-- arcs that rise between nodes below a bound, those out of lower nodes first, and carry items among so many
pub record AreArcs (nodes most : ℕ) (arcs : List TypeArc) : Type 0 where
  pub rise : All (λ e. (1 ≤ e.tail) × (e.tail < e.head) × (e.head < nodes)) arcs
  pub order : AllPairs (λ e f. e.tail ≤ f.tail) arcs
  pub items : All (λ e. e.item ≤ most) arcs

-- what the last node of a way is worth: nothing at the target, and so little elsewhere that no best way ends there
abbrev pub ends_at : ℕ → ℕ → ℤ
ends_at nodes v = if v == nodes then pos 0 else pos 0 -ℤ pos (2 ^ 100)

-- the values of the nodes are the best of ways to the target, where the first arc has number n
abbrev pub HoldsBest : (ℕ → ℤ) → ℕ → ℕ → List TypeArc → List ℤ → Type 0
HoldsBest price nodes n arcs values = (v : ℕ) → v < length values → slice_index_or values v (pos 0) ≡ best_from price (ends_at nodes) n arcs v

-- from number n on the arcs have these prices
abbrev pub ArePricesFrom : (ℕ → ℤ) → ℕ → List ℕ → List ℤ → List TypeArc → Type 0
ArePricesFrom price n items own arcs = (k : ℕ) → k < length arcs → price (n + k) ≡ price_on items own arcs k

-- the numbers are those of a way from the source that is worth as much as the source
pub record IsBestOf (price : ℕ → ℤ) (nodes n : ℕ) (arcs : List TypeArc) (worth : ℤ) (numbers : List ℕ) : Type 0 where
  pub last : ℕ
  pub leads : Leads arcs n 1 last numbers
  pub sum : way_price price numbers +ℤ ends_at nodes last ≡ worth

-- the values are those of the nodes of type t: the best of ways to its target at the prices
abbrev pub HoldsTypeBest : List TypeValue → Prices → ℕ → List ℤ → Type 0
HoldsTypeBest g p t values = HoldsBest (whole_price g p) (flow_type g t).nodes (first_arc g t + 1) (flow_type g t).arcs values

-- the numbers of type t are those of arcs in the row
pub record IsInRow (g : List TypeValue) (t : ℕ) : Type 0 where
  pub low : 1 ≤ first_arc g t
  pub rise : first_arc g t ≤ last_arc g t
  pub high : last_arc g t ≤ length (numbered g)
