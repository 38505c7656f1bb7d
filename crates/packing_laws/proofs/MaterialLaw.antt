-- No packing costs less than the material bound.
use Rattle.std.proofs.Common.{zero, suc, ◌≡◌, ℕ, ◌+◌, ◌-◌, ◌*◌, ◌<◌, ◌≤◌, inl, inr, List, [], ◌∷◌, length, take, map, filter, cond, ◌==◌, nat_lt, sum_by, All, slice_index, ap, arith, get_or, None}
use Rattle.std.proofs.lemmas.Bool.{lt-ltb, ne_eqb, cond-false, cases_lt}
use Rattle.std.proofs.lemmas.List.{take_all, get_or-map, length-map}
use Rattle.std.proofs.lemmas.List.Sums.{sum_by-cons, sum_by-append}
use Rattle.std.proofs.Math.Nat.{mul-le-mul_right, mul-le-mul_left, add-mul, mul_comm, div-zero}
use Rattle.packing_laws.specs.declared.instances.BinType.{BinType}
use Rattle.packing_laws.specs.declared.instances.Item.{Item}
use Rattle.packing_laws.specs.declared.packings.Count.{Count}
use Rattle.packing_laws.specs.Instances.{InstanceValue, IsAmong, type_at, item_at, form_at}
use Rattle.packing_laws.specs.Packings.{Content, Bins, Exists, Fits, IsPacking, all_of, cost_at, cost_of, count_of_item, weight_in}
use Rattle.packing_laws.specs.Floors.{least_of, div_up, material_in, floor_in, room_in, MaterialIsFloor}
use Rattle.packing_laws.proofs.Least.{least_of-le, least_of-first, least_of-passing, greatest_of-le, below_div_up, div_up-le}
use Rattle.packing_laws.proofs.Sums.{All-first, All-others, sum_by-le-sum_by, sum_to, sum_by-by_number, sum_to-le, sum_to-add, sum_to-zero, sum_to-one}

-- what a unit of item i weighs at least in dimension d
abbrev pub least_weight : InstanceValue → ℕ → ℕ → ℕ
least_weight I d i = least_of (map (λ v. slice_index v (d - 1)) (item_at I i).forms)

-- what a content would weigh, each unit in its lightest form
abbrev pub least_in : InstanceValue → ℕ → Content → ℕ
least_in I d c = sum_by (λ n. n.count * least_weight I d n.item) c

-- the units of each item, each at a weight of its item, are within the units of all
shares : (f : ℕ → ℕ) (n : ℕ) (c : Content) → sum_to (λ i. count_of_item i c * f i) n ≤ sum_by (λ m. m.count * f m.item) c
shares f n [] = let none : sum_to (λ i. count_of_item i [] * f i) n ≡ 0 = sum_to-zero (λ i. count_of_item i [] * f i) n (λ i low high. omega arith) in omega arith
shares f n (m ∷ c) =
    let one : sum_to (λ i. cond (m.item == i) m.count 0 * f i) n ≤ m.count * f m.item = sum_to-one m.item m.count n f in
    let others : sum_to (λ i. count_of_item i c * f i) n ≤ sum_by (λ m. m.count * f m.item) c = shares f n c in
    let both : sum_to (λ i. cond (m.item == i) m.count 0 * f i + count_of_item i c * f i) n ≡ sum_to (λ i. cond (m.item == i) m.count 0 * f i) n + sum_to (λ i. count_of_item i c * f i) n = sum_to-add (λ i. cond (m.item == i) m.count 0 * f i) (λ i. count_of_item i c * f i) n in
    let parts : sum_to (λ i. count_of_item i (m ∷ c) * f i) n ≤ sum_to (λ i. cond (m.item == i) m.count 0 * f i + count_of_item i c * f i) n =
    sum_to-le (λ i. count_of_item i (m ∷ c) * f i) (λ i. cond (m.item == i) m.count 0 * f i + count_of_item i c * f i) n
    (λ i low high. rw (sum_by-cons (λ m. cond (m.item == i) m.count 0) m c, add-mul) (omega arith)) in
    rw (sum_by-cons (λ m. m.count * f m.item) m c) (omega arith)

-- a form weighs at least what its item weighs at least
pub form-weighs : (I : InstanceValue) (d : ℕ) (n : Count) → Exists I n → n.count * least_weight I d n.item ≤ n.count * slice_index (form_at I n.item n.form) (d - 1)
form-weighs I d n exists =
    let weight : List ℕ → ℕ = λ v. slice_index v (d - 1) in
    let forms : List (List ℕ) = (item_at I n.item).forms in
    let within : n.form - 1 < length forms = omega (arith, exists.form.0, exists.form.1) in
    let e : length (map weight forms) ≡ length forms = length-map forms weight in
    let least : least_of (map weight forms) ≤ get_or (map weight forms) (n.form - 1) 0 = least_of-le (map weight forms) (n.form - 1) (omega arith) in
    let here : get_or (map weight forms) (n.form - 1) 0 ≡ weight (get_or forms (n.form - 1) []) = get_or-map weight forms (n.form - 1) [] 0 within in
    mul-le-mul_left n.count (omega arith)

-- what fits a bin weighs no more than the bin holds
pub bin-holds : (I : InstanceValue) (d t : ℕ) (c : Content) → IsAmong d I.dims → Fits I t c → least_in I d c ≤ room_in I d t
bin-holds I d t c among fits =
    let light : least_in I d c ≤ weight_in I d c = sum_by-le-sum_by (λ n. n.count * least_weight I d n.item) (λ n. n.count * slice_index (form_at I n.item n.form) (d - 1)) c (λ k e within. form-weighs I d (get_or c k e) (fits.exists k e within)) in
    let heavy : weight_in I d c ≤ room_in I d t = fits.weight d among in
    omega arith

-- what is in all bins weighs no more than they hold
bins-hold : (I : InstanceValue) (d : ℕ) (P : Bins) → IsAmong d I.dims → All (λ b. Fits I b.0 b.1) P → least_in I d (all_of P) ≤ sum_by (λ b. room_in I d b.0) P
bins-hold I d [] among fits = omega arith
bins-hold I d (b ∷ P) among fits =
    let first : least_in I d b.1 ≤ room_in I d b.0 = bin-holds I d b.0 b.1 among (All-first (λ (b : ℕ × Content). Fits I b.0 b.1) b P fits) in
    let others : least_in I d (all_of P) ≤ sum_by (λ b. room_in I d b.0) P = bins-hold I d P among (All-others (λ (b : ℕ × Content). Fits I b.0 b.1) b P fits) in
    rw (sum_by-append (λ n. n.count * least_weight I d n.item) b.1 (all_of P), sum_by-cons (λ b. room_in I d b.0) b P) (omega arith)

-- all units weigh no more than the bins hold
material-held : (I : InstanceValue) (d : ℕ) (P : Bins) → IsAmong d I.dims → IsPacking I P → material_in I d ≤ sum_by (λ b. room_in I d b.0) P
material-held I d P among packing =
    let weight : Item → ℕ = λ x. x.demand * least_of (map (λ v. slice_index v (d - 1)) x.forms) in
    let n : ℕ = length I.items in
    let whole : take n I.items ≡ I.items = take_all n I.items (omega arith) in
    let numbered : sum_by weight (take n I.items) ≡ sum_to (λ i. weight (item_at I i)) n = sum_by-by_number weight I.items (record { demand = 0; forms = [] }) n (omega arith) in
    let material : sum_by weight I.items ≡ sum_to (λ i. weight (item_at I i)) n = rw whole at numbered in
    let demands : sum_to (λ i. weight (item_at I i)) n ≤ sum_to (λ i. count_of_item i (all_of P) * least_weight I d i) n =
    sum_to-le (λ i. weight (item_at I i)) (λ i. count_of_item i (all_of P) * least_weight I d i) n
    (λ i low high. mul-le-mul_right (least_weight I d i) (let e : count_of_item i (all_of P) ≡ (item_at I i).demand = packing.demands i (low, high) in omega arith)) in
    let shared : sum_to (λ i. count_of_item i (all_of P) * least_weight I d i) n ≤ least_in I d (all_of P) = shares (least_weight I d) n (all_of P) in
    let held : least_in I d (all_of P) ≤ sum_by (λ b. room_in I d b.0) P = bins-hold I d P among packing.fits in
    omega arith

-- what a bin of a type that exists costs
pub cost_at-type : (I : InstanceValue) (t : ℕ) → 1 ≤ t → cost_at I t ≡ (type_at I t).cost
cost_at-type I t low = cond-false (t == 0) 0 (type_at I t).cost (ne_eqb t 0 (λ e. omega arith))

-- a bin's cost against what it holds, where z is below the floor
bin-costs : (I : InstanceValue) (d t z : ℕ) → IsAmong t (length I.types) → z < floor_in I d → (z * room_in I d t ≤ material_in I d * cost_at I t) × (0 < room_in I d t → z * room_in I d t < material_in I d * cost_at I t)
bin-costs I d t z among below = elim (cases_lt 0 (room_in I d t)) [
  | inl some ↦
      let nothing : BinType = record { cap = []; cost = 0; limit = None } in
      let within : t - 1 < length I.types = omega (arith, among.0, among.1) in
      let floor : floor_in I d ≤ div_up (material_in I d * (type_at I t).cost) (room_in I d t) =
      least_of-passing (λ t. div_up (material_in I d * t.cost) (slice_index t.cap (d - 1))) (λ t. nat_lt 0 (slice_index t.cap (d - 1))) I.types (t - 1) nothing within (lt-ltb 0 (room_in I d t) some) in
      let less : z * room_in I d t < material_in I d * (type_at I t).cost = below_div_up z (material_in I d * (type_at I t).cost) (room_in I d t) some (omega arith) in
      rw (cost_at-type I t among.0) (omega arith, λ _. less)
  | inr none ↦
      let e : z * room_in I d t ≡ z * 0 = ap (λ n. z * n) (omega arith) in
      (omega arith, λ some. absurd (omega arith))
]

-- the same for all bins together
bins-cost : {X : Type 0} (z m : ℕ) (f g : X → ℕ) (P : List X) → All (λ b. (z * f b ≤ m * g b) × (0 < f b → z * f b < m * g b)) P → (z * sum_by f P ≤ m * sum_by g P) × (0 < sum_by f P → z * sum_by f P < m * sum_by g P)
bins-cost z m f g [] all = (omega arith, λ some. omega arith)
bins-cost z m f g (b ∷ P) all =
    let first = All-first (λ b. (z * f b ≤ m * g b) × (0 < f b → z * f b < m * g b)) b P all in
    let others = bins-cost z m f g P (All-others (λ b. (z * f b ≤ m * g b) × (0 < f b → z * f b < m * g b)) b P all) in
    let weak : z * (f b + sum_by f P) ≤ m * (g b + sum_by g P) = omega (arith, first.0, others.0) in
    let strict : 0 < f b + sum_by f P → z * (f b + sum_by f P) < m * (g b + sum_by g P) = λ some. elim (cases_lt 0 (f b)) [ inl here ↦ omega (arith, first.1 here, others.0) | inr none ↦ omega (arith, first.0, others.1 (omega arith)) ] in
    rw (sum_by-cons f b P, sum_by-cons g b P) (weak, strict)

div_up-of_nothing : (a b : ℕ) → a ≡ 0 → div_up a b ≤ 0
div_up-of_nothing a zero none = rw none (omega (arith, div-zero 0))
div_up-of_nothing a (suc b) none = div_up-le a (suc b) 0 (omega arith) (omega arith)

least-of_nothing : (m d : ℕ) (ts : List BinType) → m ≡ 0 → least_of (map (λ t. div_up (m * t.cost) (slice_index t.cap (d - 1))) ts) ≤ 0
least-of_nothing m d [] none = omega arith
least-of_nothing m d (t ∷ ts) none =
    let cost : BinType → ℕ = λ t. div_up (m * t.cost) (slice_index t.cap (d - 1)) in
    let free : m * t.cost ≡ 0 = rw none (omega arith) in
    let first : cost t ≤ 0 = div_up-of_nothing (m * t.cost) (slice_index t.cap (d - 1)) free in
    let least : least_of (cost t ∷ map cost ts) ≤ cost t = least_of-first (cost t) (map cost ts) in
    omega arith

-- where nothing weighs anything the floor is 0
floor-of_nothing : (I : InstanceValue) (d : ℕ) → material_in I d ≡ 0 → floor_in I d ≤ 0
floor-of_nothing I d none = least-of_nothing (material_in I d) d (filter (λ t. nat_lt 0 (slice_index t.cap (d - 1))) I.types) none

-- no packing costs less than the floor in a dimension
floor-le : (I : InstanceValue) (d : ℕ) (P : Bins) → IsAmong d I.dims → IsPacking I P → floor_in I d ≤ cost_of I P
floor-le I d P among packing = elim (cases_lt (cost_of I P) (floor_in I d)) [
  | inl below ↦
      let z : ℕ = cost_of I P in
      let m : ℕ = material_in I d in
      let r : ℕ = sum_by (λ b. room_in I d b.0) P in
      let costs = bins-cost z m (λ (b : ℕ × Content). room_in I d b.0) (λ (b : ℕ × Content). cost_at I b.0) P (λ k e within. bin-costs I d (get_or P k e).0 z (packing.fits k e within).bin_type below) in
      let held : m ≤ r = material-held I d P among packing in
      let more : m * z ≤ r * z = mul-le-mul_right z held in
      elim (cases_lt 0 r) [ inl some ↦ omega (arith, costs.1 some, mul_comm z r) | inr none ↦ (let floor : floor_in I d ≤ 0 = floor-of_nothing I d (omega arith) in omega arith) ]
  | inr above ↦ above
]

pub floor_is-le : MaterialIsFloor
floor_is-le I P packing = greatest_of-le (floor_in I) (cost_of I P) I.dims (λ d low high. floor-le I d P (low, high) packing)
