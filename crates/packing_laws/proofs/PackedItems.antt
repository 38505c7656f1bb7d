-- An item of which some unit is packed has a form that fits the type of its bin.
use Rattle.std.proofs.Common.{zero, suc, ◌≡◌, ℕ, ◌+◌, ◌-◌, ◌*◌, ◌<◌, ◌≤◌, inl, inr, List, [], ◌∷◌, length, true, cond, ◌==◌, nat_le, slice_index, None, sum_by, refl, subst, arith, get_or}
use Rattle.std.specs.List.{list_any}
use Rattle.std.proofs.lemmas.Bool.{and_from, and_parts, le-leb, leb-true, cases_lt, cases_Bool, eqb-true, cond-true, cond-false}
use Rattle.std.proofs.lemmas.List.Elements.{All-from_get_or}
use Rattle.std.proofs.lemmas.List.Folds.{list_any_at}
use Rattle.std.proofs.lemmas.List.Sums.{sum_by-cons, get_or-le-sum_by}
use Rattle.std.proofs.Math.Nat.{mul-le-mul_right}
use Rattle.packing_laws.specs.declared.instances.Item.{Item}
use Rattle.packing_laws.specs.declared.packings.Count.{Count}
use Rattle.packing_laws.specs.Instances.{InstanceValue, IsInstance, IsAmong, type_at, item_at, form_at}
use Rattle.packing_laws.specs.Packings.{Content, Bins, Fits, IsPacking, all_of, count_of_item, weight_in}
use Rattle.packing_laws.specs.Floors.{vector_fits, item_fits, HasPlaces, NoPlaceNoPacking}
use Rattle.packing_laws.proofs.Sums.{sum_by-flat_map}

-- a vector that is nowhere greater fits
pub vector_fits-from : (v cap : List ℕ) → ((k : ℕ) → k < length v → get_or v k 0 ≤ get_or cap k 0) → vector_fits v cap ≡ true
vector_fits-from [] cap each = refl
vector_fits-from (x ∷ v) [] each = refl
vector_fits-from (x ∷ v) (y ∷ cap) each =
    and_from (nat_le x y) (vector_fits v cap) (le-leb x y (each zero (omega arith))) (vector_fits-from v cap (λ k within. each (suc k) (omega arith)))

-- a vector that fits is nowhere greater
pub vector_fits-at : (v cap : List ℕ) (k : ℕ) → length v ≡ length cap → vector_fits v cap ≡ true → get_or v k 0 ≤ get_or cap k 0
vector_fits-at [] cap k same fits = omega arith
vector_fits-at (x ∷ v) [] k same fits = absurd (omega arith)
vector_fits-at (x ∷ v) (y ∷ cap) zero same fits = leb-true x y (and_parts (nat_le x y) (vector_fits v cap) fits).0
vector_fits-at (x ∷ v) (y ∷ cap) (suc k) same fits = vector_fits-at v cap k (omega arith) (and_parts (nat_le x y) (vector_fits v cap) fits).1

-- a sum above 0 has a term above 0
pub positive_term : {X : Type 0} (f : X → ℕ) (xs : List X) → 0 < sum_by f xs → (k : ℕ) × (k < length xs) × ((d : X) → 0 < f (get_or xs k d))
positive_term f [] some = absurd (omega arith)
positive_term f (x ∷ xs) some = elim (cases_lt 0 (f x)) [
  | inl here ↦ (zero, omega arith, λ d. here)
  | inr none ↦
      let cons : sum_by f (x ∷ xs) ≡ f x + sum_by f xs = sum_by-cons f x xs in
      let later = positive_term f xs (omega arith) in
      (suc later.0, (let within : later.0 < length xs = later.1 in omega arith), later.2)
]

-- a unit of item i
pub is_unit : (i : ℕ) (n : Count) → 0 < cond (n.item == i) n.count 0 → (n.item ≡ i) × (0 < n.count)
is_unit i n some = elim (cases_Bool (n.item == i)) [
  | inl same ↦ (eqb-true n.item i same, rw (cond-true (n.item == i) n.count 0 same) at some)
  | inr other ↦ absurd (let none : 0 < 0 = rw (cond-false (n.item == i) n.count 0 other) at some in omega arith)
]

-- where a content with a unit of an item fits a type, some form of the item does
pub content-place : (I : InstanceValue) (t i : ℕ) (c : Content) → IsInstance I → Fits I t c → IsAmong i (length I.items) → 0 < count_of_item i c → item_fits (item_at I i) (type_at I t) ≡ true
content-place I t i c inside fits among some =
    let found = positive_term (λ (n : Count). cond (n.item == i) n.count 0) c some in
    let nothing : Count = record { item = 0; form = 0; count = 0 } in
    let n : Count = get_or c found.0 nothing in
    let unit : (n.item ≡ i) × (0 < n.count) = is_unit i n (found.2 nothing) in
    let there = fits.exists found.0 nothing found.1 in
    let form : ℕ = n.form - 1 in
    let forms : List (List ℕ) = (item_at I n.item).forms in
    let within : form < length forms = omega (arith, there.form.0, there.form.1) in
    let v : List ℕ = get_or forms form [] in
    let item_within : n.item - 1 < length I.items = omega (arith, there.item.0, there.item.1) in
    let item = inside.items (n.item - 1) (record { demand = 0; forms = [] }) item_within in
    let size : length v ≡ I.dims = (item.forms form [] within).vector.size in
    let cap : List ℕ = (type_at I t).cap in
    let each : (k : ℕ) → k < length v → get_or v k 0 ≤ get_or cap k 0 =
    λ k inner.
    let e : suc k - 1 ≡ k = omega arith in
    let whole : weight_in I (suc k) c ≤ get_or cap (suc k - 1) 0 = fits.weight (suc k) (omega arith, omega arith) in
    let part : n.count * get_or v (suc k - 1) 0 ≤ weight_in I (suc k) c = get_or-le-sum_by (λ (m : Count). m.count * slice_index (form_at I m.item m.form) (suc k - 1)) c found.0 nothing found.1 in
    let both : n.count * get_or v (suc k - 1) 0 ≤ get_or cap (suc k - 1) 0 = omega arith in
    let here : n.count * get_or v k 0 ≤ get_or cap k 0 = rw e at both in
    let one : 1 * get_or v k 0 ≤ n.count * get_or v k 0 = mul-le-mul_right (get_or v k 0) unit.1 in
    omega arith
    in
    let place : item_fits (item_at I n.item) (type_at I t) ≡ true = list_any_at (λ w. vector_fits w cap) forms form [] within (vector_fits-from v cap each) in
    subst (λ (j : ℕ). item_fits (item_at I j) (type_at I t) ≡ true) unit.0 place

-- an item of which a unit is packed fits some type
packed-place : (I : InstanceValue) (i : ℕ) (P : Bins) → IsInstance I → IsPacking I P → IsAmong i (length I.items) → 0 < (item_at I i).demand → list_any (item_fits (item_at I i)) I.types ≡ true
packed-place I i P inside packing among demand =
    let met : count_of_item i (all_of P) ≡ (item_at I i).demand = packing.demands i among in
    let split : count_of_item i (all_of P) ≡ sum_by (λ b. count_of_item i b.1) P = sum_by-flat_map (λ (n : Count). cond (n.item == i) n.count 0) (λ (b : ℕ × Content). b.1) P in
    let found = positive_term (λ (b : ℕ × Content). count_of_item i b.1) P (omega arith) in
    let b : ℕ × Content = get_or P found.0 (0, []) in
    let fits : Fits I b.0 b.1 = packing.fits found.0 (0, []) found.1 in
    let place : item_fits (item_at I i) (type_at I b.0) ≡ true = content-place I b.0 i b.1 inside fits among (found.2 (0, [])) in
    list_any_at (item_fits (item_at I i)) I.types (b.0 - 1) (record { cap = []; cost = 0; limit = None }) (omega (arith, fits.bin_type.0, fits.bin_type.1)) place

-- a place for each item, by its number
pub places-by_number : (I : InstanceValue) → ((i : ℕ) → IsAmong i (length I.items) → 0 < (item_at I i).demand → list_any (item_fits (item_at I i)) I.types ≡ true) → HasPlaces I
places-by_number I each =
    All-from_get_or (λ (x : Item). 0 < x.demand → list_any (item_fits x) I.types ≡ true) I.items (record { demand = 0; forms = [] })
    (λ k within. let e : suc k - 1 ≡ k = omega arith in rw e at (each (suc k) (omega arith, omega arith)))

pub no_place_no_packing : NoPlaceNoPacking
no_place_no_packing I inside none P packing = none (places-by_number I (λ i among. packed-place I i P inside packing among))
