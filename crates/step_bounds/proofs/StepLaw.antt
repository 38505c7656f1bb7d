-- No packing costs less than a step value: the packing is one of an instance in one dimension, in which each unit weighs what
-- it counts for and each bin costs 1, and there no packing costs less than the material bound.
use Rattle.std.proofs.Common.{◌≡◌, ℕ, ◌+◌, ◌-◌, ◌*◌, ◌<◌, ◌≤◌, ◌∙◌, inl, inr, List, [], ◌∷◌, length, map, filter, sum_by, All, slice_index, sym, subst, ap, arith, get_or, None, IfSome, nat_lt, refl}
use Rattle.std.proofs.lemmas.Bool.{lt-ltb, cond-true, cases_lt}
use Rattle.std.proofs.lemmas.List.{get_or-map, length-map}
use Rattle.std.proofs.lemmas.List.Sums.{sum_by-cons}
use Rattle.std.proofs.lemmas.Simd.{map-map}
use Rattle.std.proofs.Math.Nat.{mul-le-mul_left, div-zero}
use Rattle.packing_laws.specs.declared.instances.BinType.{BinType}
use Rattle.packing_laws.specs.declared.instances.Item.{Item}
use Rattle.packing_laws.specs.declared.packings.Count.{Count}
use Rattle.packing_laws.specs.Instances.{InstanceValue, IsAmong, type_at, item_at, form_at}
use Rattle.packing_laws.specs.Packings.{Content, Bins, Exists, Fits, IsPacking, used_of, cost_at, cost_of, weight_in}
use Rattle.packing_laws.specs.Floors.{least_of, div_up, material_in, floor_in, material_of, room_in}
use Rattle.packing_laws.proofs.MaterialLaw.{cost_at-type, floor_is-le}
use Rattle.packing_laws.proofs.Sums.{All-first, All-others, sum_by-le-sum_by}
use Rattle.step_bounds.specs.Steps.{stepped, stepped_in, IsStep, StepValuesAreFloors}
use Rattle.step_bounds.proofs.Stepped.{stepped-fits}

-- an item, each form of which weighs what it counts for
abbrev counted_item : ℕ → ℕ → ℕ → Item → Item
counted_item d W L x = record { demand = x.demand; forms = map (λ v. stepped W L (slice_index v (d - 1)) ∷ []) x.forms }

abbrev counted_type : ℕ → BinType
counted_type W = record { cap = W ∷ []; cost = 1; limit = None }

abbrev counted : InstanceValue → ℕ → ℕ → InstanceValue
counted I d L = record { dims = 1; types = counted_type (room_in I d 1) ∷ []; items = map (counted_item d (room_in I d 1) L) I.items; caps = [] }

-- what all units weigh there is what they count for
counted-sum : (d W L : ℕ) (xs : List Item) → sum_by (λ x. x.demand * least_of (map (λ v. slice_index v (1 - 1)) x.forms)) (map (counted_item d W L) xs) ≡ sum_by (λ x. x.demand * least_of (map (λ v. stepped W L (slice_index v (d - 1))) x.forms)) xs
counted-sum d W L [] = refl
counted-sum d W L (x ∷ xs) =
    let weighs : Item → ℕ = λ x. x.demand * least_of (map (λ v. slice_index v (1 - 1)) x.forms) in
    let counts : Item → ℕ = λ x. x.demand * least_of (map (λ v. stepped W L (slice_index v (d - 1))) x.forms) in
    let first : weighs (counted_item d W L x) ≡ counts x = ap (λ (ws : List ℕ). x.demand * least_of ws) (map-map (λ (v : List ℕ). slice_index v (1 - 1)) (λ (v : List ℕ). stepped W L (slice_index v (d - 1)) ∷ []) x.forms) in
    let others : sum_by weighs (map (counted_item d W L) xs) ≡ sum_by counts xs = counted-sum d W L xs in
    rw (sum_by-cons weighs (counted_item d W L x) (map (counted_item d W L) xs), sum_by-cons counts x xs) (omega (arith, first, others))

counted-material : (I : InstanceValue) (d L : ℕ) → material_in (counted I d L) 1 ≡ stepped_in I d (room_in I d 1) L
counted-material I d L = counted-sum d (room_in I d 1) L I.items

module _ (I : InstanceValue) (d L : ℕ) (step : IsStep I d L) where
  -- an item that exists, and a form of it
  item-at : (i : ℕ) → IsAmong i (length I.items) → item_at (counted I d L) i ≡ counted_item d (room_in I d 1) L (item_at I i)
  item-at i among = get_or-map (counted_item d (room_in I d 1) L) I.items (i - 1) (record { demand = 0; forms = [] }) (record { demand = 0; forms = [] }) (omega (arith, among.0, among.1))

  form-at : (n : Count) → Exists I n → form_at (counted I d L) n.item n.form ≡ stepped (room_in I d 1) L (slice_index (form_at I n.item n.form) (d - 1)) ∷ []
  form-at n exists =
      let weigh : List ℕ → List ℕ = λ v. stepped (room_in I d 1) L (slice_index v (d - 1)) ∷ [] in
      let forms : (item_at (counted I d L) n.item).forms ≡ map weigh (item_at I n.item).forms = ap (λ (x : Item). x.forms) (item-at n.item exists.item) in
      ap (λ (vs : List (List ℕ)). get_or vs (n.form - 1) []) forms ∙ get_or-map weigh (item_at I n.item).forms (n.form - 1) [] [] (omega (arith, exists.form.0, exists.form.1))

  exists-at : (n : Count) → Exists I n → Exists (counted I d L) n
  exists-at n exists =
      let weigh : List ℕ → List ℕ = λ v. stepped (room_in I d 1) L (slice_index v (d - 1)) ∷ [] in
      let items : length (map (counted_item d (room_in I d 1) L) I.items) ≡ length I.items = length-map I.items (counted_item d (room_in I d 1) L) in
      let forms : length (item_at (counted I d L) n.item).forms ≡ length (item_at I n.item).forms = ap (λ (x : Item). length x.forms) (item-at n.item exists.item) ∙ length-map (item_at I n.item).forms weigh in
      record { item = (exists.item.0, omega (arith, exists.item.1, items)); form = (exists.form.0, omega (arith, exists.form.1, forms)) }

  -- what fits a bin fits there
  weight-fits : (c : Content) → All (Exists I) c → weight_in I d c ≤ room_in I d 1 → weight_in (counted I d L) 1 c ≤ room_in I d 1
  weight-fits c exists fits =
      let W : ℕ = room_in I d 1 in
      let counts : sum_by (λ (n : Count). n.count * stepped W L (slice_index (form_at I n.item n.form) (d - 1))) c ≤ W = stepped-fits W L (λ (n : Count). n.count) (λ (n : Count). slice_index (form_at I n.item n.form) (d - 1)) c step.half fits in
      let same : weight_in (counted I d L) 1 c ≤ sum_by (λ (n : Count). n.count * stepped W L (slice_index (form_at I n.item n.form) (d - 1))) c =
      sum_by-le-sum_by (λ (n : Count). n.count * slice_index (form_at (counted I d L) n.item n.form) (1 - 1)) (λ (n : Count). n.count * stepped W L (slice_index (form_at I n.item n.form) (d - 1))) c
      (λ k n within. mul-le-mul_left (get_or c k n).count (let form : slice_index (form_at (counted I d L) (get_or c k n).item (get_or c k n).form) 0 ≡ stepped W L (slice_index (form_at I (get_or c k n).item (get_or c k n).form) (d - 1)) = ap (λ v. slice_index v 0) (form-at (get_or c k n) (exists k n within)) in omega arith)) in
      omega arith

  first-type : (t : ℕ) → IsAmong t (length I.types) → t ≡ 1
  first-type t among = omega (arith, among.0, among.1, step.single)

  fits-there : (t : ℕ) (c : Content) → Fits I t c → Fits (counted I d L) t c
  fits-there t c fits =
      let first : t ≡ 1 = first-type t fits.bin_type in
      subst (λ u. Fits (counted I d L) u c) (sym first) (record {
        bin_type = (omega arith, omega arith);
        exists = λ k n within. exists-at (get_or c k n) (fits.exists k n within);
        weight = λ e among. subst (λ m. weight_in (counted I d L) m c ≤ slice_index (room_in I d 1 ∷ []) (m - 1)) (let one : 1 ≡ e = omega (arith, among.0, among.1) in one)
            (weight-fits c fits.exists (subst (λ u. weight_in I d c ≤ room_in I d u) first (fits.weight d step.dim)));
        caps = λ k cap within. absurd (omega arith);
      })

  packing-there : (P : Bins) → IsPacking I P → IsPacking (counted I d L) P
  packing-there P packing = record {
    fits = λ k b within. fits-there (get_or P k b).0 (get_or P k b).1 (packing.fits k b within);
    limits = λ t among. let first : t ≡ 1 = omega (arith, among.0, among.1) in subst (λ u. IfSome (type_at (counted I d L) u).limit (λ q. used_of u P ≤ q)) (sym first) tt;
    demands = λ i among.
        let items : length (map (counted_item d (room_in I d 1) L) I.items) ≡ length I.items = length-map I.items (counted_item d (room_in I d 1) L) in
        let own : IsAmong i (length I.items) = (among.0, omega (arith, among.1, items)) in
        packing.demands i own ∙ sym (ap (λ (x : Item). x.demand) (item-at i own));
  }

  -- each bin costs 1 there
  cost-there : (P : Bins) → All (λ b. Fits I b.0 b.1) P → (type_at I 1).cost * cost_of (counted I d L) P ≤ cost_of I P
  cost-there [] fits = omega arith
  cost-there (b ∷ P) fits =
      let first : b.0 ≡ 1 = first-type b.0 (All-first (λ (b : ℕ × Content). Fits I b.0 b.1) b P fits).bin_type in
      let there : cost_at (counted I d L) b.0 ≡ 1 = ap (cost_at (counted I d L)) first ∙ cost_at-type (counted I d L) 1 (omega arith) in
      let here : cost_at I b.0 ≡ (type_at I 1).cost = ap (cost_at I) first ∙ cost_at-type I 1 (omega arith) in
      let others : (type_at I 1).cost * cost_of (counted I d L) P ≤ cost_of I P = cost-there P (All-others (λ (b : ℕ × Content). Fits I b.0 b.1) b P fits) in
      rw (sum_by-cons (λ (b : ℕ × Content). cost_at (counted I d L) b.0) b P, sum_by-cons (λ (b : ℕ × Content). cost_at I b.0) b P, there, here) (omega (arith, others))

  floor-there : 0 < room_in I d 1 → div_up (stepped_in I d (room_in I d 1) L) (room_in I d 1) ≤ material_of (counted I d L)
  floor-there some =
      let W : ℕ = room_in I d 1 in
      let cost : BinType → ℕ = λ t. div_up (material_in (counted I d L) 1 * t.cost) (slice_index t.cap (1 - 1)) in
      let only : filter (λ (t : BinType). nat_lt 0 (slice_index t.cap (1 - 1))) (counted_type W ∷ []) ≡ counted_type W ∷ [] = cond-true (nat_lt 0 W) (counted_type W ∷ []) [] (lt-ltb 0 W some) in
      let floor : floor_in (counted I d L) 1 ≡ div_up (material_in (counted I d L) 1 * 1) W = ap (λ (ts : List BinType). least_of (map cost ts)) only in
      let material : material_in (counted I d L) 1 ≡ stepped_in I d W L = counted-material I d L in
      let one : material_in (counted I d L) 1 * 1 ≡ stepped_in I d W L = omega (arith, material) in
      let same : div_up (material_in (counted I d L) 1 * 1) W ≡ div_up (stepped_in I d W L) W = ap (λ m. div_up m W) one in
      omega (arith, floor, same)

pub step_value-floor : StepValuesAreFloors
step_value-floor I d L step P packing =
    let W : ℕ = room_in I d 1 in
    let bins : ℕ = div_up (stepped_in I d W L) W in
    let cost : ℕ = (type_at I 1).cost in
    elim (cases_lt 0 W) [
      | inl some ↦
          let floor : bins ≤ material_of (counted I d L) = floor-there I d L step some in
          let bound : material_of (counted I d L) ≤ cost_of (counted I d L) P = floor_is-le (counted I d L) P (packing-there I d L step P packing) in
          let there : cost * bins ≤ cost * cost_of (counted I d L) P = mul-le-mul_left cost (omega arith) in
          let here : cost * cost_of (counted I d L) P ≤ cost_of I P = cost-there I d L step P packing.fits in
          omega arith
      | inr none ↦
          let empty : W ≡ 0 = omega arith in
          let no_bins : bins ≡ 0 = ap (λ w. div_up (stepped_in I d W L) w) empty ∙ div-zero (stepped_in I d W L + (0 - 1)) in
          let free : cost * bins ≡ cost * 0 = ap (λ n. cost * n) no_bins in
          omega arith
    ]
