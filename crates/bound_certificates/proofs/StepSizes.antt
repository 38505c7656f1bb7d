-- Step values are within what a certificate can claim: what all units count for is no more than a bin for each unit.
use Rattle.std.proofs.Common.{◌≡◌, ℕ, ◌+◌, ◌-◌, ◌*◌, ◌≤◌, ◌∙◌, List, [], ◌∷◌, length, map, get_or, slice_index, ap, arith, ⊎_elim, None}
use Rattle.std.proofs.Math.Nat.{div-zero, mul-le-mul_left, mul-le-mul_right}
use Rattle.std.proofs.lemmas.Bool.{cases_lt}
use Rattle.std.proofs.lemmas.List.Sums.{sum_by-le}
use Rattle.arc_num.specs.declared.TheConstants.{MAX_DEMAND, MAX_ITEMS, MAX_PRICE, MAX_VALUE}
use Rattle.packing_laws.specs.declared.instances.Item.{Item}
use Rattle.packing_laws.specs.declared.instances.BinType.{BinType}
use Rattle.packing_laws.specs.Instances.{InstanceValue, IsInstance, IsItem, type_at}
use Rattle.packing_laws.specs.Floors.{div_up, least_of, room_in}
use Rattle.packing_laws.proofs.Least.{div_up-le, least_of-first}
use Rattle.step_bounds.specs.Steps.{step_value_of, stepped, stepped_in}
use Rattle.step_bounds.proofs.Stepped.{stepped-large, stepped-le}

stepped_most : (W L x : ℕ) → stepped W L x ≤ W
stepped_most W L x = ⊎_elim
    (λ large. let whole = stepped-large W L x large in omega (arith, whole))
    (λ small. let less = stepped-le W L x small in omega (arith, less, small))
    (cases_lt (W - L) x)

least_most : (W L d : ℕ) (forms : List (List ℕ)) → least_of (map (λ v. stepped W L (slice_index v (d - 1))) forms) ≤ W
least_most W L d [] = omega arith
least_most W L d (v ∷ forms) =
    let first = least_of-first (stepped W L (slice_index v (d - 1))) (map (λ v. stepped W L (slice_index v (d - 1))) forms) in
    let most = stepped_most W L (slice_index v (d - 1)) in
    omega (arith, first, most)

module _ (I : InstanceValue) (instance : IsInstance I) (d L : ℕ) where
  abbrev room : ℕ
  room = room_in I d 1

  abbrev counts : Item → ℕ
  counts x = x.demand * least_of (map (λ v. stepped room L (slice_index v (d - 1))) x.forms)

  item_counts : (x : Item) → IsItem I.dims x → counts x ≤ MAX_DEMAND * room
  item_counts x is =
      let least = least_most room L d x.forms in
      let own : counts x ≤ x.demand * room = mul-le-mul_left x.demand least in
      let most : x.demand * room ≤ MAX_DEMAND * room = mul-le-mul_right room is.demand in
      omega (arith, own, most)

  all_count : stepped_in I d room L ≤ MAX_ITEMS * MAX_DEMAND * room
  all_count =
      let each = sum_by-le counts (MAX_DEMAND * room) I.items (λ k x within. item_counts (get_or I.items k x) (instance.items k x within)) in
      let many : length I.items * (MAX_DEMAND * room) ≤ MAX_ITEMS * (MAX_DEMAND * room) = mul-le-mul_right (MAX_DEMAND * room) instance.item_count in
      omega (arith, each, many)

  bins_most : div_up (stepped_in I d room L) room ≤ MAX_ITEMS * MAX_DEMAND
  bins_most = ⊎_elim
      (λ some. div_up-le (stepped_in I d room L) room (MAX_ITEMS * MAX_DEMAND) some all_count)
      (λ none.
      let empty : room ≡ 0 = omega (arith, none) in
      let no_bins : div_up (stepped_in I d room L) room ≡ 0 = ap (λ w. div_up (stepped_in I d room L) w) empty ∙ div-zero (stepped_in I d room L + (0 - 1)) in
      omega (arith, no_bins))
      (cases_lt 0 room)

  pub step_value_small : step_value_of I d L ≤ MAX_PRICE
  step_value_small =
      let bins = bins_most in
      let nothing : BinType = record { cap = []; cost = 0; limit = None } in
      let cost : (type_at I 1).cost ≤ MAX_VALUE = (instance.types 0 nothing (let some = instance.type_count.0 in omega (arith, some))).cost in
      let one : (type_at I 1).cost * div_up (stepped_in I d room L) room ≤ (type_at I 1).cost * (MAX_ITEMS * MAX_DEMAND) = mul-le-mul_left (type_at I 1).cost bins in
      let two : (type_at I 1).cost * (MAX_ITEMS * MAX_DEMAND) ≤ MAX_VALUE * (MAX_ITEMS * MAX_DEMAND) = mul-le-mul_right (MAX_ITEMS * MAX_DEMAND) cost in
      omega (arith, one, two)
