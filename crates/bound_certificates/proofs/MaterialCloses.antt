-- Material prices close every box for each bound up to the material bound.
use Rattle.std.proofs.Common.{◌≡◌, ℕ, zero, suc, ◌-◌, ◌*◌, ◌<◌, ◌≤◌, ◌∙◌, [], length, None, refl, sym, ap, subst, arith, ℤ, pos, negsuc, ◌-ℤ◌, ◌*ℤ◌, ◌<ℤ◌}
use Rattle.std.proofs.Math.IntN.{pos-*ℤ-negsuc, pos-*ℤ-pos}
use Rattle.std.proofs.lemmas.Int.{ints}
use Rattle.std.proofs.lemmas.List.Elements.{All-nil}
use Rattle.arc_num.specs.declared.TheConstants.{MAX_PRICE, MAX_VALUE}
use Rattle.packing_laws.specs.Instances.{InstanceValue, IsBinType, IsInstance, item_at, type_at}
use Rattle.packing_laws.specs.Packings.{cost_at}
use Rattle.packing_laws.specs.Floors.{div_up, material_in, material_of, room_in, IsFirstBestType, IsGreatestFloor}
use Rattle.packing_laws.proofs.BestType.{best_gives_floor}
use Rattle.packing_laws.proofs.Least.{below_div_up}
use Rattle.packing_laws.proofs.MaterialLaw.{cost_at-type}
use Rattle.flow_graph.specs.Arcs.{numbered}
use Rattle.cert_text.specs.declared.lines.ArcPrice.{ArcPrice}
use Rattle.cert_text.specs.declared.lines.ItemPrice.{ItemPrice}
use Rattle.cert_text.specs.declared.lines.Prices.{Prices}
use Rattle.cert_text.specs.declared.lines.Claim.TheVariants.{Bound}
use Rattle.cert_text.specs.Lines.{IsBetween}
use Rattle.path_prices.specs.Worth.{IsEnough, bound, worth_of}
use Rattle.cert_laws.specs.Rules.{demands_of}
use Rattle.bound_certificates.specs.MaterialPrices.{ClosesAll, none, some, MaterialPricesClose, lightest, weight_prices}
use Rattle.bound_certificates.proofs.MaterialGains.{gains_by_weight}
use Rattle.bound_certificates.proofs.WeightPrices.{are_prices, items_exist, prices_by_weight, worth_is_material}

-- a worth is enough for a bound where it is above the scale times one less
above_less : (scale least worth : ℕ) → 0 < scale → ((n : ℕ) → least ≡ suc n → n * scale < worth) → (pos scale *ℤ (pos least -ℤ pos 1)) <ℤ pos worth
above_less scale zero worth positive more =
    let less : pos 0 -ℤ pos 1 ≡ negsuc 0 = omega (arith, ints) in
    let product : pos scale *ℤ (pos 0 -ℤ pos 1) ≡ pos 0 -ℤ pos scale = ap (λ z. pos scale *ℤ z) less ∙ pos-*ℤ-negsuc scale 0 ∙ omega (arith, ints) in
    omega (arith, ints, product, positive)
above_less scale (suc n) worth positive more =
    let less : pos (suc n) -ℤ pos 1 ≡ pos n = omega (arith, ints) in
    let product : pos scale *ℤ (pos (suc n) -ℤ pos 1) ≡ pos (scale * n) = ap (λ z. pos scale *ℤ z) less ∙ pos-*ℤ-pos scale n in
    let above = more n refl in
    omega (arith, ints, product, above)

items_enough : (scale least worth : ℕ) (w : ℤ) → w ≡ pos worth → 0 < scale → ((n : ℕ) → least ≡ suc n → n * scale < worth) → IsEnough (Bound least) scale w
items_enough scale least worth w is positive more = bound least refl positive (subst (λ z. (pos scale *ℤ (pos least -ℤ pos 1)) <ℤ z) (sym is) (above_less scale least worth positive more))

module _ (I : InstanceValue) (instance : IsInstance I) (least : ℕ) (reached : least ≤ material_of I) where
  -- nothing is priced
  without : material_of I ≡ 0 → ClosesAll I (record { scale = 1; items = []; arcs = [] }) least
  without nothing = record {
    prices = record {
      scale = omega arith;
      item_count = omega arith;
      item_order = λ i j e less within. absurd (omega (arith, within));
      items = All-nil (λ (x : ItemPrice). (1 ≤ x.item) × IsBetween 1 MAX_PRICE x.price);
      arc_count = omega arith;
      arc_order = λ i j e less within. absurd (omega (arith, within));
      arcs = λ k e within. absurd (omega (arith, within));
    };
    items = All-nil (λ (x : ItemPrice). x.item ≤ length I.items);
    arcs = λ g. All-nil (λ (x : ArcPrice). x.arc ≤ length (numbered g));
    closes = λ g graph faithful box. record {
      gains = λ t among. gains_by_weight I 1 0 1 [] (All-nil (λ (x : ItemPrice). x.price ≡ lightest 1 (item_at I x.item) * 0)) g faithful (omega arith, instance.dims.0) t among (1 * cost_at I t) (omega arith);
      strong = items_enough 1 least 0 (worth_of (demands_of I) box (record { scale = 1; items = []; arcs = [] })) (omega (arith, ints)) (omega arith) (λ n is. absurd (omega (arith, is, reached, nothing)));
    };
  }

  module _ (d t : ℕ) (greatest : IsGreatestFloor I d) (first : IsFirstBestType I d t) where
    abbrev cost : ℕ
    cost = cost_at I t

    abbrev scale : ℕ
    scale = room_in I d t

    abbrev prices : Prices
    prices = record { scale = scale; items = weight_prices I d cost; arcs = [] }

    own_type : IsBinType I.dims (type_at I t)
    own_type = let among = first.best.bin_type in instance.types (t - 1) (record { cap = []; cost = 0; limit = None }) (omega (arith, among.0, among.1))

    cost_is : cost ≡ (type_at I t).cost
    cost_is = cost_at-type I t first.best.bin_type.0

    room_small : scale ≤ MAX_VALUE
    room_small =
        let size = own_type.capacity.size in
        let dim = greatest.dim in
        own_type.capacity.small (d - 1) 0 (omega (arith, dim.0, dim.1, size))

    -- below the floor the bins of the chosen type, taken in parts, do not hold all
    worth_above : (n : ℕ) → least ≡ suc n → n * scale < material_in I d * cost
    worth_above n is =
        let floor = best_gives_floor I d t first.best in
        let most = greatest.greatest in
        let below : n < div_up (material_in I d * (type_at I t).cost) scale = omega (arith, is, reached, most, floor) in
        let held = below_div_up n (material_in I d * (type_at I t).cost) scale first.best.room below in
        let same : material_in I d * cost ≡ material_in I d * (type_at I t).cost = ap (λ m. material_in I d * m) cost_is in
        omega (arith, held, same)

    with_weights : ClosesAll I prices least
    with_weights =
        let small_cost : cost ≤ MAX_VALUE = let own = own_type.cost in let same = cost_is in omega (arith, own, same) in
        let small_room = room_small in
        record {
          prices = are_prices I d cost instance greatest.dim small_cost scale (omega (arith, small_room));
          items = items_exist I d cost;
          arcs = λ g. All-nil (λ (x : ArcPrice). x.arc ≤ length (numbered g));
          closes = λ g graph faithful box. record {
            gains = λ u among.
                let types = faithful.graph.types in
                let best = first.best.best u (among.0, omega (arith, among.1, types)) in
                let other = cost_at-type I u among.0 in
                let own : room_in I d u * cost ≡ room_in I d u * (type_at I t).cost = ap (λ m. room_in I d u * m) cost_is in
                let whole : scale * cost_at I u ≡ scale * (type_at I u).cost = ap (λ m. scale * m) other in
                gains_by_weight I d cost scale (weight_prices I d cost) (prices_by_weight I d cost) g faithful greatest.dim u among (scale * cost_at I u) (omega (arith, best, own, whole));
            strong =
                let material = worth_is_material I d cost in
                items_enough scale least (material_in I d * cost) (worth_of (demands_of I) box prices) (omega (arith, ints, material)) first.best.room worth_above;
          };
        }

pub material_prices_close : MaterialPricesClose
material_prices_close I p least instance (none nothing is) reached = subst (λ (q : Prices). ClosesAll I q least) (sym is) (without I instance least reached nothing)
material_prices_close I p least instance (some d t greatest first is) reached = subst (λ (q : Prices). ClosesAll I q least) (sym is) (with_weights I instance least reached d t greatest first)
