-- Where prices close a box, what lies in it as a flow, in whole numbers or in fractions, costs more than is claimed.
use Rattle.std.proofs.Common.{◌≡◌, ℕ, suc, ◌+◌, ◌-◌, ◌*◌, ◌≤◌, ◌<◌, List, [], length, get_or, ap, ◌∙◌, ⊎_elim, arith, ℤ, pos, negsuc, ◌-ℤ◌, ◌*ℤ◌, ◌≤ℤ◌, ◌<ℤ◌}
use Rattle.std.proofs.Math.IntN.{pos-*ℤ-pos}
use Rattle.std.proofs.Math.Nat.{mul-le-mul_left, lt_of_mul-lt-mul_left}
use Rattle.std.proofs.lemmas.Bool.{cases_lt}
use Rattle.std.proofs.lemmas.Int.{ints}
use Rattle.std.proofs.lemmas.List.{get_or_past, get_or-map, length-map}
use Rattle.packing_laws.specs.declared.instances.Item.{Item}
use Rattle.packing_laws.specs.Instances.{InstanceValue, IsAmong, item_at}
use Rattle.packing_laws.specs.Packings.{cost_at}
use Rattle.flow_graph.specs.Arcs.{TypeValue, IsFlowGraph, arc_at, numbered}
use Rattle.flow_graph.specs.Chords.{range_at}
use Rattle.flow_graph.specs.Laws.{PotentialsCancel}
use Rattle.flow_graph.proofs.ArcKinds.{number_of}
use Rattle.flow_graph.proofs.SignedProducts.{mul_add}
use Rattle.flow_model.specs.Flows.{AreConserved, arc_cost, carries, flow_cost, total_of}
use Rattle.flow_model.specs.Prices.{ConservedIsBalanced, price_of}
use Rattle.cert_text.specs.declared.lines.ItemPrice.{ItemPrice}
use Rattle.cert_text.specs.declared.lines.ArcPrice.{ArcPrice}
use Rattle.cert_text.specs.declared.lines.Prices.{Prices}
use Rattle.cert_text.specs.declared.lines.Claim.{Claim}
use Rattle.cert_text.specs.declared.lines.Claim.TheVariants.{Bound}
use Rattle.cert_text.specs.Lines.{ArePrices}
use Rattle.path_prices.specs.Gains.{GainsAtMost, arc_price_in, carried_price, whole_price}
use Rattle.path_prices.specs.Worth.{IsEnough, empty, bound, arcs_worth, items_worth, worth_of}
use Rattle.cert_laws.specs.Rules.{Box, demands_of}
use Rattle.cert_laws.proofs.PricedFlows.{priced_below, priced_same, weigh_natural}
use Rattle.cert_laws.proofs.ItemWorths.{IsCarried, carried_is, items_carried, unit_price, weigh_times}
use Rattle.cert_laws.proofs.ArcWorths.{IsHeld, arcs_held, price_sum}

-- values in parts of 1 / scale that lie in a box, are conserved, and meet each demand
pub record IsFraction (I : InstanceValue) (g : List TypeValue) (box : Box) (scale : ℕ) (values : List ℕ) : Type 0 where
  pub size : length values ≡ length (numbered g)
  pub ranges : length box ≡ length (numbered g)
  pub conserved : AreConserved g values
  pub served : (i : ℕ) → IsAmong i (length I.items) → scale * (item_at I i).demand ≤ total_of (carries i) g values
  pub low : (a : ℕ) → IsAmong a (length (numbered g)) → scale * (range_at box a).0 ≤ get_or values (a - 1) 0
  pub high : (a : ℕ) → IsAmong a (length (numbered g)) → get_or values (a - 1) 0 ≤ scale * (range_at box a).1

module _ (I : InstanceValue) (g : List TypeValue) (box : Box) (p : Prices) (scale : ℕ) (values : List ℕ) (are : ArePrices p) (is : IsFraction I g box scale values) where
  carried : (x : ItemPrice) → 1 ≤ x.item → IsCarried scale (demands_of I) (numbered g) values x
  carried x low =
      let none : Item = record { demand = 0; forms = [] } in
      ⊎_elim
      (λ within.
      let read : get_or (demands_of I) (x.item - 1) 0 ≡ (item_at I x.item).demand = get_or-map (λ (y : Item). y.demand) I.items (x.item - 1) none 0 within in
      let served = is.served x.item (low, omega (arith, within, low)) in
      let whole : scale * get_or (demands_of I) (x.item - 1) 0 ≡ scale * (item_at I x.item).demand = ap (λ n. scale * n) read in
      omega (arith, whole, served))
      (λ past.
      let long = length-map I.items (λ (y : Item). y.demand) in
      let read : get_or (demands_of I) (x.item - 1) 0 ≡ 0 = get_or_past (demands_of I) (x.item - 1) 0 (omega (arith, past, long)) in
      let whole : scale * get_or (demands_of I) (x.item - 1) 0 ≡ scale * 0 = ap (λ n. scale * n) read in
      omega (arith, whole))
      (cases_lt (x.item - 1) (length I.items))

  held : (x : ArcPrice) → 1 ≤ x.arc → IsHeld scale box values x
  held x from = ⊎_elim
      (λ within.
      let among : IsAmong x.arc (length (numbered g)) = (from, omega (arith, within, from)) in
      record { number = from; low = is.low x.arc among; high = is.high x.arc among })
      (λ past.
      let size = is.size in
      let ranges = is.ranges in
      let value : get_or values (x.arc - 1) 0 ≡ 0 = get_or_past values (x.arc - 1) 0 (omega (arith, past, size)) in
      let range : range_at box x.arc ≡ (0, 0) = get_or_past box (x.arc - 1) (0, 0) (omega (arith, past, ranges)) in
      let least : scale * (range_at box x.arc).0 ≡ scale * 0 = ap (λ (r : ℕ × ℕ). scale * r.0) range in
      record { number = from; low = omega (arith, least); high = omega (arith, value) })
      (cases_lt (x.arc - 1) (length (numbered g)))

  items_priced : pos (scale * items_worth (demands_of I) p) ≤ℤ price_of (λ a. pos (carried_price p (arc_at g a))) values
  items_priced =
      let less = items_carried scale (demands_of I) (numbered g) values p.items are.item_order (λ k d within. carried (get_or p.items k d) (are.items k d within).0) in
      let same = priced_same (λ a. pos (carried_price p (arc_at g a))) (λ kind. pos (unit_price p.items kind)) (numbered g) 1 values is.size
      (λ j kind at. let place : 1 + j ≡ suc j = omega arith in ap (λ a. pos (carried_price p (arc_at g a))) place ∙ ap (λ o. pos (carried_price p o)) (number_of g j kind at) ∙ ap pos (carried_is p kind)) in
      let natural = weigh_natural (unit_price p.items) (numbered g) values in
      omega (arith, ints, less, same, natural)

  -- what the prices are worth in the box is no more than what the values are priced
  worth_priced : (pos scale *ℤ worth_of (demands_of I) box p) ≤ℤ price_of (whole_price g p) values
  worth_priced =
      let items = items_priced in
      let arcs = arcs_held scale box values p.arcs are.arc_order (λ k d within. held (get_or p.arcs k d) (are.arcs k d within).0) in
      let both = price_sum (arc_price_in p.arcs) (λ a. pos (carried_price p (arc_at g a))) 1 values in
      let parts = mul_add (pos scale) (pos (items_worth (demands_of I) p)) (arcs_worth box p.arcs) in
      let product = pos-*ℤ-pos scale (items_worth (demands_of I) p) in
      omega (arith, ints, items, arcs, both, parts, product)

  -- and that is no more than the scale of the prices times what the values cost
  pub worth_below : PotentialsCancel → ConservedIsBalanced → IsFlowGraph g → ((t : ℕ) → IsAmong t (length g) → GainsAtMost g p t (pos (p.scale * cost_at I t))) → (pos scale *ℤ worth_of (demands_of I) box p) ≤ℤ pos (p.scale * flow_cost I g values)
  worth_below cancel balance graph gains =
      let worth = worth_priced in
      let priced = priced_below g graph (whole_price g p) (λ kind. p.scale * arc_cost I kind) gains cancel balance values is.size is.conserved in
      let cost = weigh_times p.scale (arc_cost I) (numbered g) values in
      omega (arith, ints, worth, priced, cost)

-- what a claim of a bound says of a cost in parts of 1 / scale
pub record Beats (claim : Claim) (scale cost : ℕ) : Type 0 where
  pub least : ℕ
  pub claimed : claim ≡ Bound least
  pub more : (n : ℕ) → least ≡ suc n → scale * n < cost

above_product : (scale d m k cost : ℕ) → 1 ≤ scale → d * m < k → scale * k ≤ d * cost → scale * m < cost
above_product scale d m k cost some above below =
    let more : scale * suc (d * m) ≤ scale * k = mul-le-mul_left scale above in
    let turned : scale * suc (d * m) ≡ d * (scale * m) + scale = omega arith in
    lt_of_mul-lt-mul_left d {m = scale * m} {n = cost} (omega (arith, more, turned, below, some))

-- the worth of something that is above a number
above_worth : (scale d m : ℕ) (w : ℤ) (cost : ℕ) → 1 ≤ scale → pos (d * m) <ℤ w → (pos scale *ℤ w) ≤ℤ pos (d * cost) → scale * m < cost
above_worth scale d m (pos k) cost some above below =
    let product = pos-*ℤ-pos scale k in
    above_product scale d m k cost some (omega (arith, ints, above)) (omega (arith, ints, below, product))
above_worth scale d m (negsuc k) cost some above below = absurd (omega (arith, ints, above))

nothing_below : (scale : ℕ) (w : ℤ) (n : ℕ) → 1 ≤ scale → pos 0 <ℤ w → (pos scale *ℤ w) ≤ℤ pos n → n ≡ 0 → ⊥
nothing_below scale (pos k) n some above below none =
    let product = pos-*ℤ-pos scale k in
    let positive : 1 ≤ k = omega (arith, ints, above) in
    let more : scale * 1 ≤ scale * k = mul-le-mul_left scale positive in
    omega (arith, ints, product, more, below, none, some)
nothing_below scale (negsuc k) n some above below none = omega (arith, ints, above)

pub enough_beats : (claim : Claim) (d : ℕ) (w : ℤ) (scale cost : ℕ) → 1 ≤ scale → (pos scale *ℤ w) ≤ℤ pos (d * cost) → IsEnough claim d w → Beats claim scale cost
enough_beats claim d w scale cost some below (empty none above) =
    let nothing : d * cost ≡ 0 * cost = ap (λ n. n * cost) none in
    absurd (nothing_below scale w (d * cost) some above below (omega (arith, nothing)))
enough_beats claim d w scale cost some below (bound b claimed scaled above) = record {
  least = b;
  claimed = claimed;
  more = λ n is.
      let less : pos b -ℤ pos 1 ≡ pos n = omega (arith, ints, is) in
      let product : pos d *ℤ (pos b -ℤ pos 1) ≡ pos (d * n) = ap (λ z. pos d *ℤ z) less ∙ pos-*ℤ-pos d n in
      above_worth scale d n w cost some (omega (arith, ints, above, product)) below;
}
