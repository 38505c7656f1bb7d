-- The material bound of an instance in which each item with a demand fits somewhere is small: without the limits of its types,
-- which it does not look at, one bin for each unit is a packing.
use Rattle.std.proofs.Common.{◌≡◌, ℕ, ◌+◌, ◌-◌, ◌*◌, ◌≤◌, ◌<◌, Bool, true, false, ◌&&◌, List, [], ◌∷◌, map, filter, length, None, is_none, refl, sym, ap, subst, ◌∙◌, arith, All, sum_by, get_or, nat_lt, cond, ⊎_elim, ◌≢◌}
use Rattle.std.specs.Prelude.{slice_index}
use Rattle.std.specs.List.{list_any}
use Rattle.std.proofs.lemmas.Bool.{cases_eq}
use Rattle.std.proofs.lemmas.List.{get_or-map, length-map}
use Rattle.std.proofs.lemmas.List.Folds.{Any-from_list_any}
use Rattle.std.proofs.lemmas.List.Elements.{All-head, All-map, All-tail}
use Rattle.std.proofs.lemmas.List.Sums.{sum_by-cons}
use Rattle.std.proofs.Math.Nat.{mul-le-mul_left}
use Rattle.arc_num.specs.declared.TheConstants.{MAX_PRICE, MAX_TYPES}
use Rattle.packing_laws.specs.declared.instances.BinType.{BinType}
use Rattle.packing_laws.specs.declared.instances.Item.{Item}
use Rattle.packing_laws.specs.Instances.{InstanceValue, IsAmong, IsBinType, IsInstance, units_of}
use Rattle.packing_laws.specs.Packings.{cost_of}
use Rattle.packing_laws.specs.Floors.{HasPlaces, HasSingle, MaterialIsFloor, SingleIsReached, div_up, floor_in, greatest_of, item_fits, least_of, material_in, material_of, numbers_to, single_costs}
use Rattle.packing_laws.proofs.Least.{least_of-passing, some-passing}
use Rattle.packing_laws.proofs.WrittenUnits.{units-most}

-- a type without its limit
abbrev unlimited : BinType → BinType
unlimited t = record { cap = t.cap; cost = t.cost; limit = None }

-- the instance without the limits of its types
abbrev freed : InstanceValue → InstanceValue
freed I = record { dims = I.dims; types = map unlimited I.types; items = I.items; caps = I.caps }

floors_alike : (I : InstanceValue) (d : ℕ) (types : List BinType) → map (λ t. div_up (material_in I d * t.cost) (slice_index t.cap (d - 1))) (filter (λ t. nat_lt 0 (slice_index t.cap (d - 1))) (map unlimited types)) ≡ map (λ t. div_up (material_in I d * t.cost) (slice_index t.cap (d - 1))) (filter (λ t. nat_lt 0 (slice_index t.cap (d - 1))) types)
floors_alike I d [] = refl
floors_alike I d (t ∷ types) = chosen (nat_lt 0 (slice_index t.cap (d - 1))) (filter (λ t. nat_lt 0 (slice_index t.cap (d - 1))) (map unlimited types)) (filter (λ t. nat_lt 0 (slice_index t.cap (d - 1))) types) (floors_alike I d types)
  where
    chosen : (b : Bool) (xs ys : List BinType) → map (λ t. div_up (material_in I d * t.cost) (slice_index t.cap (d - 1))) xs ≡ map (λ t. div_up (material_in I d * t.cost) (slice_index t.cap (d - 1))) ys → map (λ t. div_up (material_in I d * t.cost) (slice_index t.cap (d - 1))) (cond b (unlimited t ∷ xs) xs) ≡ map (λ t. div_up (material_in I d * t.cost) (slice_index t.cap (d - 1))) (cond b (t ∷ ys) ys)
    chosen true xs ys same = ap (λ (l : List ℕ). div_up (material_in I d * t.cost) (slice_index t.cap (d - 1)) ∷ l) same
    chosen false xs ys same = same

same_material : (I : InstanceValue) → material_of (freed I) ≡ material_of I
same_material I =
    let floor : (d : ℕ) → floor_in (freed I) d ≡ floor_in I d = λ d. ap least_of (floors_alike I d I.types) in
    λ k. greatest_of (map (λ d. floor d k) (numbers_to I.dims))

freed_instance : (I : InstanceValue) → IsInstance I → IsInstance (freed I)
freed_instance I is = record {
  dims = is.dims;
  type_count = subst (λ (n : ℕ). IsAmong n MAX_TYPES) (sym (length-map I.types unlimited)) is.type_count;
  types = All-map (IsBinType I.dims) unlimited I.types (λ k t within. let own = is.types k t within in record { capacity = own.capacity; cost = own.cost; limit = tt });
  item_count = is.item_count;
  items = is.items;
  form_count = is.form_count;
  caps = is.caps;
}

-- a type that an item fits: with one bin for each unit no unit costs more than the greatest cost
unit_cost : (I : InstanceValue) → IsInstance I → (x : Item) → 0 < x.demand → list_any (item_fits x) I.types ≡ true → (0 < length (single_costs (freed I) x)) × (least_of (single_costs (freed I) x) ≤ 2147483647)
unit_cost I is x some fits =
    let any = Any-from_list_any (item_fits x) I.types fits in
    let k : ℕ = any.0 in
    let t : BinType = any.1 in
    let free : BinType = unlimited t in
    let types : List BinType = map unlimited I.types in
    let test : BinType → Bool = λ u. is_none u.limit && item_fits x u in
    let long : length types ≡ length I.types = length-map I.types unlimited in
    let within = any.2 in
    let inside : k < length types = omega (arith, within, long) in
    let read : get_or types k free ≡ free = get_or-map unlimited I.types k t free within ∙ ap unlimited any.3 in
    let passes : test (get_or types k free) ≡ true = ap test read ∙ any.4 in
    let least : least_of (single_costs (freed I) x) ≤ (get_or types k free).cost = least_of-passing (λ (u : BinType). u.cost) test types k free inside passes in
    let cost : (get_or types k free).cost ≡ t.cost = ap (λ (u : BinType). u.cost) read in
    let small : t.cost ≤ 2147483647 = subst (λ (u : BinType). u.cost ≤ 2147483647) any.3 (is.types k t within).cost in
    (some-passing (λ (u : BinType). u.cost) test types k free inside passes, omega (arith, least, cost, small))

has_single : (I : InstanceValue) → IsInstance I → HasPlaces I → HasSingle (freed I)
has_single I is places = λ k x within some. (unit_cost I is (get_or I.items k x) some (places k x within some)).0

items_cost : (I : InstanceValue) → IsInstance I → (items : List Item) → All (λ x. 0 < x.demand → list_any (item_fits x) I.types ≡ true) items → sum_by (λ x. x.demand * least_of (single_costs (freed I) x)) items ≤ 2147483647 * sum_by (λ x. x.demand) items
items_cost I is [] places = omega arith
items_cost I is (x ∷ items) places =
    let rest = items_cost I is items (All-tail (λ (y : Item). 0 < y.demand → list_any (item_fits y) I.types ≡ true) x items places) in
    let own : x.demand * least_of (single_costs (freed I) x) ≤ x.demand * 2147483647 = by_demand x (All-head (λ (y : Item). 0 < y.demand → list_any (item_fits y) I.types ≡ true) x items places) in
    let left : sum_by (λ (y : Item). y.demand * least_of (single_costs (freed I) y)) (x ∷ items) ≡ x.demand * least_of (single_costs (freed I) x) + sum_by (λ (y : Item). y.demand * least_of (single_costs (freed I) y)) items = sum_by-cons (λ (y : Item). y.demand * least_of (single_costs (freed I) y)) x items in
    let right : sum_by (λ (y : Item). y.demand) (x ∷ items) ≡ x.demand + sum_by (λ (y : Item). y.demand) items = sum_by-cons (λ (y : Item). y.demand) x items in
    omega (arith, rest, own, left, right)
  where
    by_demand : (y : Item) → (0 < y.demand → list_any (item_fits y) I.types ≡ true) → y.demand * least_of (single_costs (freed I) y) ≤ y.demand * 2147483647
    by_demand y fits = ⊎_elim
        (λ (none : y.demand ≡ 0). subst (λ (n : ℕ). n * least_of (single_costs (freed I) y) ≤ n * 2147483647) (sym none) (omega arith))
        (λ (some : y.demand ≢ 0). let wanted : 0 < y.demand = omega (arith, some) in mul-le-mul_left y.demand (unit_cost I is y wanted (fits wanted)).1)
        (cases_eq y.demand 0)

pub small_material : MaterialIsFloor → SingleIsReached → (I : InstanceValue) → IsInstance I → HasPlaces I → material_of I ≤ MAX_PRICE
small_material floor reached I is places =
    let found = reached (freed I) (freed_instance I is) (has_single I is places) in
    let least : material_of (freed I) ≤ cost_of (freed I) found.0 = floor (freed I) found.0 found.1 in
    let same = same_material I in
    let cost = found.2 in
    let most = items_cost I is I.items places in
    let units : units_of I ≤ 1000000000 = units-most I is in
    omega (arith, least, same, cost, most, units)
