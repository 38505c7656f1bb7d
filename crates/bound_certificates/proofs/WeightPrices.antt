-- Prices by weight keep the rules of a line's prices, and all units are worth what they weigh, times the cost.
use Rattle.std.proofs.Common.{◌≡◌, ℕ, zero, suc, ◌+◌, ◌-◌, ◌*◌, ◌<◌, ◌≤◌, ◌∙◌, List, [], ◌∷◌, ◌++◌, append-nil, length, map, filter, get_or, slice_index, sum_by, take, Bool, false, nat_lt, refl, sym, ap, All, arith}
use Rattle.std.specs.Prelude.{AllPairs}
use Rattle.std.proofs.Math.Nat.{mul-le-mul_left, mul-le-mul_right}
use Rattle.std.proofs.lemmas.Bool.{cond-false, cond-true, le-ltb, lt-ltb, ltb-false, ltb-true}
use Rattle.std.proofs.lemmas.List.{get_or-map, get_or_default, length-map, map-append, take_all}
use Rattle.std.proofs.lemmas.List.Elements.{All-filter, All-map, filter-append, filter_passes}
use Rattle.std.proofs.lemmas.List.Kept.{AllPairs-filter}
use Rattle.std.proofs.lemmas.List.Sums.{count_by-le-length, length-filter}
use Rattle.arc_num.specs.declared.TheConstants.{MAX_PRICE, MAX_VALUE}
use Rattle.packing_laws.specs.declared.instances.Item.{Item}
use Rattle.packing_laws.specs.Instances.{InstanceValue, IsAmong, IsForm, IsInstance, IsItem, item_at}
use Rattle.packing_laws.specs.Floors.{material_in}
use Rattle.packing_laws.proofs.Least.{least_of-le}
use Rattle.packing_laws.proofs.Sums.{sum_by-by_number, sum_to}
use Rattle.packing_laws.proofs.TidyParts.{sum_by-filter, sum_by-map}
use Rattle.flow_model.specs.Flows.{up_to}
use Rattle.cert_text.specs.declared.lines.ItemPrice.{ItemPrice}
use Rattle.cert_text.specs.Lines.{ArePrices}
use Rattle.cert_laws.specs.Rules.{demands_of}
use Rattle.cert_laws.proofs.NumbersUpTo.{all_up_to, length_up_to, sum_up_to, up_to_read}
use Rattle.bound_certificates.specs.MaterialPrices.{lightest, weight_price, weight_prices}

-- an item that does not exist
abbrev pub no_item : Item
no_item = record { demand = 0; forms = [] }

-- sums that are alike but for a factor
scaled_sum : (f h : ℕ → ℕ) (c n : ℕ) → ((i : ℕ) → IsAmong i n → f i ≡ h i * c) → sum_to f n ≡ sum_to h n * c
scaled_sum f h c zero each = omega arith
scaled_sum f h c (suc n) each =
    let rest = scaled_sum f h c n (λ i among. each i (among.0, omega (arith, among.1))) in
    let last = each (suc n) (omega arith, omega arith) in
    omega (arith, rest, last)

module _ (I : InstanceValue) (d c : ℕ) where
  abbrev rows : List ItemPrice
  rows = map (weight_price I d c) (up_to (length I.items))

  abbrev priced : ItemPrice → Bool
  priced x = nat_lt 0 x.price

  all_rows : (Q : ItemPrice → Type 0) → ((i : ℕ) → IsAmong i (length I.items) → Q (weight_price I d c i)) → All Q rows
  all_rows Q each = All-map Q (weight_price I d c) (up_to (length I.items)) (all_up_to (λ i. Q (weight_price I d c i)) (length I.items) each)

  -- the price of the next item
  pub next_price : (i : ℕ) (items : List Item) (x : Item) (m n : ℕ) → items ≡ I.items → i < length items → x ≡ get_or items i x → m ≡ lightest d x → n ≡ c → record { item = i + 1; price = m * n } ≡ weight_price I d c (suc i)
  next_price i items x m n same within here least cost =
      let number : i + 1 ≡ suc i = omega arith in
      let place : i ≡ suc i - 1 = omega arith in
      let there : x ≡ item_at I (suc i) = here ∙ get_or_default items i x no_item within ∙ ap (λ (xs : List Item). get_or xs i no_item) same ∙ ap (λ k. get_or I.items k no_item) place in
      let weight : m ≡ lightest d (item_at I (suc i)) = least ∙ ap (lightest d) there in
      λ k. record { item = number k; price = weight k * cost k }

  rows_more : (i : ℕ) → filter priced (map (weight_price I d c) (up_to (i + 1))) ≡ filter priced (map (weight_price I d c) (up_to i)) ++ filter priced (weight_price I d c (suc i) ∷ [])
  rows_more i =
      let number : i + 1 ≡ suc i = omega arith in
      ap (λ n. filter priced (map (weight_price I d c) (up_to n))) number
      ∙ ap (filter priced) (map-append (weight_price I d c) (up_to i) (suc i ∷ []))
      ∙ filter-append priced (map (weight_price I d c) (up_to i)) (weight_price I d c (suc i) ∷ [])

  -- it is listed, or it is 0
  pub next_listed : (i : ℕ) (old new : List ItemPrice) (y : ItemPrice) → old ≡ filter priced (map (weight_price I d c) (up_to i)) → y ≡ weight_price I d c (suc i) → 0 < y.price → new ≡ old ++ y ∷ [] → new ≡ filter priced (map (weight_price I d c) (up_to (i + 1)))
  next_listed i old new y is own some more =
      let kept : filter priced (y ∷ []) ≡ y ∷ [] = cond-true (priced y) (y ∷ []) [] (lt-ltb 0 y.price some) in
      more ∙ (λ k. is k ++ sym kept k) ∙ (λ k. filter priced (map (weight_price I d c) (up_to i)) ++ filter priced (own k ∷ [])) ∙ sym (rows_more i)

  pub next_free : (i : ℕ) (old new : List ItemPrice) (y : ItemPrice) → old ≡ filter priced (map (weight_price I d c) (up_to i)) → y ≡ weight_price I d c (suc i) → y.price ≤ 0 → new ≡ old → new ≡ filter priced (map (weight_price I d c) (up_to (i + 1)))
  next_free i old new y is own none same =
      let gone : filter priced (y ∷ []) ≡ [] = cond-false (priced y) (y ∷ []) [] (le-ltb 0 y.price none) in
      same ∙ is ∙ sym (append-nil (filter priced (map (weight_price I d c) (up_to i)))) ∙ (λ k. filter priced (map (weight_price I d c) (up_to i)) ++ sym gone k) ∙ (λ k. filter priced (map (weight_price I d c) (up_to i)) ++ filter priced (own k ∷ [])) ∙ sym (rows_more i)

  -- each listed price is that of its item
  pub prices_by_weight : All (λ x. x.price ≡ lightest d (item_at I x.item) * c) (weight_prices I d c)
  prices_by_weight = All-filter priced (λ x. x.price ≡ lightest d (item_at I x.item) * c) rows (all_rows (λ x. x.price ≡ lightest d (item_at I x.item) * c) (λ i among. refl))

  pub items_exist : All (λ x. x.item ≤ length I.items) (weight_prices I d c)
  items_exist = All-filter priced (λ x. x.item ≤ length I.items) rows (all_rows (λ x. x.item ≤ length I.items) (λ i among. among.1))

  numbers_from_one : All (λ x. 1 ≤ x.item) (weight_prices I d c)
  numbers_from_one = All-filter priced (λ x. 1 ≤ x.item) rows (all_rows (λ x. 1 ≤ x.item) (λ i among. among.0))

  row_at : (k : ℕ) (e : ItemPrice) → k < length rows → get_or rows k e ≡ weight_price I d c (suc k)
  row_at k e within =
      let long = length-map (up_to (length I.items)) (weight_price I d c) in
      let count = length_up_to (length I.items) in
      let place : suc k - 1 ≡ k = omega arith in
      let read : get_or (up_to (length I.items)) k 0 ≡ suc k = ap (λ n. get_or (up_to (length I.items)) n 0) (sym place) ∙ up_to_read (length I.items) (suc k) (omega arith, omega (arith, within, long, count)) in
      get_or-map (weight_price I d c) (up_to (length I.items)) k 0 e (omega (arith, within, long)) ∙ ap (weight_price I d c) read

  rows_ascend : AllPairs (λ x y. x.item < y.item) rows
  rows_ascend i j e less within =
      let one : (get_or rows i e).item ≡ suc i = ap (λ (x : ItemPrice). x.item) (row_at i e (omega (arith, less, within))) in
      let two : (get_or rows j e).item ≡ suc j = ap (λ (x : ItemPrice). x.item) (row_at j e within) in
      omega (arith, one, two, less)

  abbrev unit_worth : ItemPrice → ℕ
  unit_worth x = get_or (demands_of I) (x.item - 1) 0 * x.price

  nothing_worth : (x : ItemPrice) → priced x ≡ false → unit_worth x ≡ 0
  nothing_worth x unpriced =
      let none : x.price ≤ 0 = ltb-false 0 x.price unpriced in
      let zero_price : x.price ≡ 0 = omega (arith, none) in
      let whole : unit_worth x ≡ get_or (demands_of I) (x.item - 1) 0 * 0 = ap (λ n. get_or (demands_of I) (x.item - 1) 0 * n) zero_price in
      omega (arith, whole)

  abbrev weight : Item → ℕ
  weight x = x.demand * lightest d x

  unit_is : (i : ℕ) → IsAmong i (length I.items) → unit_worth (weight_price I d c i) ≡ weight (item_at I i) * c
  unit_is i among =
      let read : get_or (demands_of I) (i - 1) 0 ≡ (item_at I i).demand = get_or-map (λ (y : Item). y.demand) I.items (i - 1) no_item 0 (omega (arith, among.0, among.1)) in
      let whole : unit_worth (weight_price I d c i) ≡ (item_at I i).demand * (lightest d (item_at I i) * c) = ap (λ n. n * (lightest d (item_at I i) * c)) read in
      omega (arith, whole)

  -- all units are worth what they weigh at least, times the cost
  pub worth_is_material : sum_by unit_worth (weight_prices I d c) ≡ material_in I d * c
  worth_is_material =
      let n : ℕ = length I.items in
      let kept = sum_by-filter unit_worth priced rows nothing_worth in
      let mapped = sum_by-map unit_worth (weight_price I d c) (up_to n) in
      let numbered = sum_up_to (λ i. unit_worth (weight_price I d c i)) n in
      let scaled = scaled_sum (λ i. unit_worth (weight_price I d c i)) (λ i. weight (item_at I i)) c n unit_is in
      let whole : take n I.items ≡ I.items = take_all n I.items (omega arith) in
      let by_number : sum_by weight (take n I.items) ≡ sum_to (λ i. weight (item_at I i)) n = sum_by-by_number weight I.items no_item n (omega arith) in
      let material : material_in I d ≡ sum_to (λ i. weight (item_at I i)) n = ap (sum_by weight) (sym whole) ∙ by_number in
      let product : material_in I d * c ≡ sum_to (λ i. weight (item_at I i)) n * c = ap (λ m. m * c) material in
      kept ∙ mapped ∙ numbered ∙ scaled ∙ sym product

  module _ (instance : IsInstance I) (dim : IsAmong d I.dims) (cost : c ≤ MAX_VALUE) where
    form_small : (v : List ℕ) → IsForm I.dims v → slice_index v (d - 1) ≤ MAX_VALUE
    form_small v is =
        let size = is.vector.size in
        is.vector.small (d - 1) 0 (omega (arith, dim.0, dim.1, size))

    lightest_small : (x : Item) → IsItem I.dims x → lightest d x ≤ MAX_VALUE
    lightest_small x is =
        let weights : List ℕ = map (λ v. slice_index v (d - 1)) x.forms in
        let long = length-map x.forms (λ (v : List ℕ). slice_index v (d - 1)) in
        let some = is.form_count.0 in
        let least = least_of-le weights 0 (omega (arith, long, some)) in
        let read : get_or weights 0 0 ≡ slice_index (get_or x.forms 0 []) (d - 1) = get_or-map (λ (v : List ℕ). slice_index v (d - 1)) x.forms 0 [] 0 (omega (arith, some)) in
        let small = form_small (get_or x.forms 0 []) (is.forms 0 [] (omega (arith, some))) in
        omega (arith, least, read, small)

    price_small : (i : ℕ) → IsAmong i (length I.items) → (weight_price I d c i).price ≤ MAX_PRICE
    price_small i among =
        let least = lightest_small (item_at I i) (instance.items (i - 1) no_item (omega (arith, among.0, among.1))) in
        let one : lightest d (item_at I i) * c ≤ MAX_VALUE * c = mul-le-mul_right c least in
        let two : MAX_VALUE * c ≤ MAX_VALUE * MAX_VALUE = mul-le-mul_left MAX_VALUE cost in
        omega (arith, one, two)

    prices_small : All (λ x. x.price ≤ MAX_PRICE) (weight_prices I d c)
    prices_small = All-filter priced (λ x. x.price ≤ MAX_PRICE) rows (all_rows (λ x. x.price ≤ MAX_PRICE) price_small)

    -- a line can tell them
    pub are_prices : (scale : ℕ) → scale ≤ MAX_PRICE → ArePrices (record { scale = scale; items = weight_prices I d c; arcs = [] })
    are_prices scale fits =
        let passes = filter_passes priced rows in
        let kept = length-filter priced rows in
        let less = count_by-le-length priced rows in
        let long = length-map (up_to (length I.items)) (weight_price I d c) in
        let count = length_up_to (length I.items) in
        let many = instance.item_count in
        record {
          scale = fits;
          item_count = omega (arith, kept, less, long, count, many);
          item_order = AllPairs-filter (λ x y. x.item < y.item) priced rows rows_ascend;
          items = λ k x within. (numbers_from_one k x within, (ltb-true 0 (get_or (weight_prices I d c) k x).price (passes k x within), prices_small k x within));
          arc_count = omega arith;
          arc_order = λ i j e less within. absurd (omega (arith, within));
          arcs = λ k e within. absurd (omega (arith, within));
        }
