-- The price of an arc, and the greatest price of a way through the graph of a type.
use Rattle.std.specs.Prelude.{◌≡◌, ℕ, ◌==◌, if◌then◌else◌, ℤ, pos, ◌+ℤ◌, ◌≤ℤ◌, List, [], ◌∷◌, Option, None, Some}
use Rattle.cert_text.specs.declared.lines.ItemPrice.{ItemPrice}
use Rattle.cert_text.specs.declared.lines.ArcPrice.{ArcPrice}
use Rattle.cert_text.specs.declared.lines.Prices.{Prices}
use Rattle.flow_graph.specs.declared.parts.ArcKind.{ArcKind}
use Rattle.flow_graph.specs.declared.parts.ArcKind.TheVariants.{Bin, Loss, Piece}
use Rattle.flow_graph.specs.Arcs.{TypeValue, arc_at, first_arc}
use Rattle.flow_graph.specs.Faithful.{IsNumberedPath}
use Rattle.flow_model.specs.Prices.{way_price}

-- the price of item i in a list, 0 where it is not listed
abbrev pub item_price_in : List ItemPrice → ℕ → ℕ
item_price_in [] i = 0
item_price_in (x ∷ xs) i = if x.item == i then x.price else item_price_in xs i

-- the price of arc a in a list, 0 where it is not listed
abbrev pub arc_price_in : List ArcPrice → ℕ → ℤ
arc_price_in [] a = pos 0
arc_price_in (x ∷ xs) a = if x.arc == a then x.price else arc_price_in xs a

-- the price of what an arc carries: that of its item
abbrev pub carried_price : Prices → Option ArcKind → ℕ
carried_price p None = 0
carried_price p (Some (Bin t)) = 0
carried_price p (Some (Loss t tail head)) = 0
carried_price p (Some (Piece t tail head item form)) = item_price_in p.items item

-- the whole price of arc a: its own, and that of what it carries
abbrev pub whole_price : List TypeValue → Prices → ℕ → ℤ
whole_price g p a = arc_price_in p.arcs a +ℤ pos (carried_price p (arc_at g a))

-- the price of a bin of type t that is filled along a path: that of the bin arc and those of the arcs of the path
abbrev pub bin_price : List TypeValue → Prices → ℕ → List ℕ → ℤ
bin_price g p t numbers = way_price (whole_price g p) (first_arc g t ∷ numbers)

-- the gain of type t: the greatest price of a bin that is filled along a path
pub record IsGain (g : List TypeValue) (p : Prices) (t : ℕ) (x : ℤ) : Type 0 where
  pub path : List ℕ
  pub leads : IsNumberedPath g t path
  pub price : bin_price g p t path ≡ x
  pub greatest : (numbers : List ℕ) → IsNumberedPath g t numbers → bin_price g p t numbers ≤ℤ x

-- the gain of type t is at most z: so is the price of each bin that is filled along a path
abbrev pub GainsAtMost : List TypeValue → Prices → ℕ → ℤ → Type 0
GainsAtMost g p t z = (numbers : List ℕ) → IsNumberedPath g t numbers → bin_price g p t numbers ≤ℤ z
