-- How large prices are, in lists and in tables.
use Rattle.std.proofs.Common.{ℕ, ◌+◌, ◌^◌, ◌≤◌, ◌==◌, ℤ, pos, List, [], ◌∷◌, sym, subst, arith}
use Rattle.std.specs.Prelude.{All, Option, None, Some, unsigned_abs}
use Rattle.std.proofs.lemmas.Int.{ints}
use Rattle.std.proofs.lemmas.List.Elements.{All-head, All-tail, All-from_get_or}
use Rattle.arc_num.specs.declared.TheConstants.{MAX_PRICE}
use Rattle.cert_text.specs.declared.lines.ItemPrice.{ItemPrice}
use Rattle.cert_text.specs.declared.lines.ArcPrice.{ArcPrice}
use Rattle.cert_text.specs.declared.lines.Prices.{Prices}
use Rattle.cert_text.specs.Lines.{ArePrices, IsBetween}
use Rattle.flow_graph.specs.declared.parts.ArcKind.{ArcKind}
use Rattle.flow_graph.specs.declared.parts.ArcKind.TheVariants.{Bin, Loss, Piece}
use Rattle.flow_graph.specs.Arcs.{TypeValue, arc_at}
use Rattle.path_prices.specs.Gains.{arc_price_in, carried_price, item_price_in, whole_price}
use Rattle.path_prices.specs.inner.Tables.{AreLaid, AreSmall, IsWithin}
use Rattle.path_prices.proofs.BestWays.{either_way, within-abs}

pub item-price-small : (prices : List ItemPrice) (i : ℕ) → All (λ x. (1 ≤ x.item) × IsBetween 1 MAX_PRICE x.price) prices → item_price_in prices i ≤ MAX_PRICE
item-price-small [] i small = omega arith
item-price-small (x ∷ prices) i small =
    let first = All-head (λ (x : ItemPrice). (1 ≤ x.item) × IsBetween 1 MAX_PRICE x.price) x prices small in
    let rest = item-price-small prices i (All-tail (λ (x : ItemPrice). (1 ≤ x.item) × IsBetween 1 MAX_PRICE x.price) x prices small) in
    either_way (λ (n : ℕ). n ≤ MAX_PRICE) (x.item == i) x.price (item_price_in prices i) first.1.1 rest

pub arc-price-small : (prices : List ArcPrice) (a : ℕ) → All (λ x. (1 ≤ x.arc) × IsBetween 1 MAX_PRICE (unsigned_abs x.price)) prices → unsigned_abs (arc_price_in prices a) ≤ MAX_PRICE
arc-price-small [] a small = omega arith
arc-price-small (x ∷ prices) a small =
    let first = All-head (λ (x : ArcPrice). (1 ≤ x.arc) × IsBetween 1 MAX_PRICE (unsigned_abs x.price)) x prices small in
    let rest = arc-price-small prices a (All-tail (λ (x : ArcPrice). (1 ≤ x.arc) × IsBetween 1 MAX_PRICE (unsigned_abs x.price)) x prices small) in
    either_way (λ (z : ℤ). unsigned_abs z ≤ MAX_PRICE) (x.arc == a) x.price (arc_price_in prices a) first.1.1 rest

pub laid-small : (p : Prices) (items : List ℕ) (arcs : List ℤ) → ArePrices p → AreLaid p items arcs → AreSmall items arcs
laid-small p items arcs are laid = record {
  small_items = All-from_get_or (λ x. x ≤ MAX_PRICE) items 0 (λ k low. subst (λ (n : ℕ). n ≤ MAX_PRICE) (sym (laid.items_laid k low)) (item-price-small p.items (k + 1) are.items));
  small_arcs = All-from_get_or (λ x. unsigned_abs x ≤ MAX_PRICE) arcs (pos 0) (λ k low. subst (λ (z : ℤ). unsigned_abs z ≤ MAX_PRICE) (sym (laid.arcs_laid k low)) (arc-price-small p.arcs (k + 1) are.arcs));
}

carried-small : (p : Prices) → ArePrices p → (kind : Option ArcKind) → carried_price p kind ≤ MAX_PRICE
carried-small p are None = omega arith
carried-small p are (Some (Bin t)) = omega arith
carried-small p are (Some (Loss t tail head)) = omega arith
carried-small p are (Some (Piece t tail head item form)) = item-price-small p.items item are.items

-- how large the whole price of an arc is
pub whole-within : (g : List TypeValue) (p : Prices) → ArePrices p → (a : ℕ) → IsWithin (2 ^ 63) (whole_price g p a)
whole-within g p are a =
    let own = within-abs MAX_PRICE (arc_price_in p.arcs a) (arc-price-small p.arcs a are.arcs) in
    let low = own.low in
    let high = own.high in
    let carried = carried-small p are (arc_at g a) in
    record { low = omega (arith, ints, low, carried); high = omega (arith, ints, high, carried) }
