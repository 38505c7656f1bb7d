-- How many units a written packing holds, and that the sums of its printed form fit.
use Rattle.std.proofs.Common.{zero, suc, ◌≡◌, ℕ, ◌+◌, ◌*◌, ◌≤◌, inl, inr, List, [], ◌∷◌, cond, ◌==◌, nat_lt, length, take, sum_by, All, ap, arith, get_or, take_all}
use Rattle.std.proofs.lemmas.Bool.{cases_Bool, cases_eq, cond-true, cond-false, eq-eqb, ltb-true}
use Rattle.std.proofs.lemmas.List.Elements.{All-append, All-nil}
use Rattle.std.proofs.lemmas.List.Sums.{sum_by-cons, sum_by-le, get_or-le-sum_by}
use Rattle.std.proofs.Math.Nat.{mul-le-mul_left, mul-le-mul_right}
use Rattle.arc_num.specs.declared.TheConstants.{MAX_ITEMS, MAX_DEMAND, MAX_UNITS}
use Rattle.packing_laws.specs.declared.instances.Item.{Item}
use Rattle.packing_laws.specs.declared.packings.Count.{Count}
use Rattle.packing_laws.specs.declared.packings.Bin.{Bin}
use Rattle.packing_laws.specs.Instances.{InstanceValue, IsInstance, IsAmong, item_at, units_of}
use Rattle.packing_laws.specs.Packings.{Content, Bins, Fits, all_of, count_of_item}
use Rattle.packing_laws.specs.Printed.{bins_of, units_in, holds_units, IsWrittenPacking, PackingsFit}
use Rattle.packing_laws.proofs.Sums.{All-first, All-others, sum_by-flat_map, sum_by-le-sum_by, sum_to, sum_to-add, sum_to-le, sum_to-term, sum_by-by_number}
use Rattle.packing_laws.proofs.WrittenSums.{sum_by-bins_of}

-- the units of a content are those of its items
pub units-by_item : (n : ℕ) (c : Content) → All (λ m. IsAmong m.item n) c → units_in c ≤ sum_to (λ i. count_of_item i c) n
units-by_item n [] among = omega arith
units-by_item n (m ∷ c) among =
    let here : IsAmong m.item n = All-first (λ (x : Count). IsAmong x.item n) m c among in
    let rest : units_in c ≤ sum_to (λ i. count_of_item i c) n = units-by_item n c (All-others (λ (x : Count). IsAmong x.item n) m c among) in
    let first : m.count ≤ sum_to (λ i. cond (m.item == i) m.count 0) n = sum_to-term m.item m.count n here.0 here.1 in
    let both : sum_to (λ i. cond (m.item == i) m.count 0 + count_of_item i c) n ≡ sum_to (λ i. cond (m.item == i) m.count 0) n + sum_to (λ i. count_of_item i c) n = sum_to-add (λ i. cond (m.item == i) m.count 0) (λ i. count_of_item i c) n in
    let parts : sum_to (λ i. cond (m.item == i) m.count 0 + count_of_item i c) n ≤ sum_to (λ i. count_of_item i (m ∷ c)) n =
    sum_to-le (λ i. cond (m.item == i) m.count 0 + count_of_item i c) (λ i. count_of_item i (m ∷ c)) n
    (λ i low high. let e : count_of_item i (m ∷ c) ≡ cond (m.item == i) m.count 0 + count_of_item i c = sum_by-cons (λ (x : Count). cond (x.item == i) x.count 0) m c in omega arith) in
    let whole : units_in (m ∷ c) ≡ m.count + units_in c = sum_by-cons (λ (x : Count). x.count) m c in
    omega arith

-- what is in the bins exists
pub all-exist : (I : InstanceValue) (P : Bins) → All (λ b. Fits I b.0 b.1) P → All (λ m. IsAmong m.item (length I.items)) (all_of P)
all-exist I [] fits = All-nil (λ (m : Count). IsAmong m.item (length I.items))
all-exist I (b ∷ P) fits =
    All-append (λ (m : Count). IsAmong m.item (length I.items)) b.1 (all_of P)
    (λ k d within. ((All-first (λ (c : ℕ × Content). Fits I c.0 c.1) b P fits).exists k d within).item)
    (all-exist I P (All-others (λ (c : ℕ × Content). Fits I c.0 c.1) b P fits))

-- an instance asks for at most MAX_UNITS units
pub units-most : (I : InstanceValue) → IsInstance I → units_of I ≤ MAX_UNITS
units-most I inside =
    let n : ℕ = length I.items in
    let most : units_of I ≤ n * MAX_DEMAND = sum_by-le (λ (x : Item). x.demand) MAX_DEMAND I.items (λ k d within. (inside.items k d within).demand) in
    let few : n ≤ MAX_ITEMS = inside.item_count in
    let bound : n * MAX_DEMAND ≤ MAX_ITEMS * MAX_DEMAND = mul-le-mul_right MAX_DEMAND few in
    let limit : MAX_ITEMS * MAX_DEMAND ≤ MAX_UNITS = omega arith in
    omega arith

-- the bins hold at most as many units as an instance asks for
pub written-units : (I : InstanceValue) (bins : List Bin) → IsInstance I → IsWrittenPacking I bins → sum_by (λ b. b.times * units_in b.counts) bins ≤ MAX_UNITS
written-units I bins inside written =
    let P : Bins = bins_of bins in
    let n : ℕ = length I.items in
    let demand : ℕ → ℕ = λ i. (item_at I i).demand in
    let by_line : sum_by (λ b. units_in b.1) P ≡ sum_by (λ b. b.times * units_in b.counts) bins = sum_by-bins_of (λ b. units_in b.1) bins in
    let joined : units_in (all_of P) ≡ sum_by (λ b. units_in b.1) P = sum_by-flat_map (λ (m : Count). m.count) (λ (b : ℕ × Content). b.1) P in
    let by_item : units_in (all_of P) ≤ sum_to (λ i. count_of_item i (all_of P)) n = units-by_item n (all_of P) (all-exist I P written.packing.fits) in
    let met : sum_to (λ i. count_of_item i (all_of P)) n ≤ sum_to demand n =
    sum_to-le (λ i. count_of_item i (all_of P)) demand n (λ i low high. let e : count_of_item i (all_of P) ≡ demand i = written.packing.demands i (low, high) in omega arith) in
    let asked : sum_by (λ (x : Item). x.demand) (take n I.items) ≡ sum_to demand n = sum_by-by_number (λ (x : Item). x.demand) I.items (record { demand = 0; forms = [] }) n (omega arith) in
    let whole : sum_by (λ (x : Item). x.demand) (take n I.items) ≡ units_of I = ap (λ (l : List Item). sum_by (λ (x : Item). x.demand) l) (take_all n I.items (omega arith)) in
    let most : units_of I ≤ MAX_UNITS = units-most I inside in
    omega arith

cond-le-mul : (t u : ℕ) → cond (nat_lt 0 u) t 0 ≤ t * u
cond-le-mul t u = elim (cases_Bool (nat_lt 0 u)) [
  | inl some ↦
      let e : ◌≡◌ {A = ℕ} (cond (nat_lt 0 u) t 0) t = cond-true (nat_lt 0 u) t 0 some in
      let one : 1 ≤ u = ltb-true 0 u some in
      let more : t * 1 ≤ t * u = mul-le-mul_left t one in
      omega arith
  | inr none ↦ let e : ◌≡◌ {A = ℕ} (cond (nat_lt 0 u) t 0) 0 = cond-false (nat_lt 0 u) t 0 none in omega arith
]

pub packings_fit : PackingsFit
packings_fit I bins inside written =
    let units : Bin → ℕ = λ b. b.times * units_in b.counts in
    let all : sum_by units bins ≤ MAX_UNITS = written-units I bins inside written in
    let filled : sum_by (λ b. cond (holds_units b) b.times 0) bins ≤ sum_by units bins = sum_by-le-sum_by (λ b. cond (holds_units b) b.times 0) units bins (λ k d within. cond-le-mul (get_or bins k d).times (units_in (get_or bins k d).counts)) in
    record {
      times = omega arith;
      counts = λ k d within used.
          let b : Bin = get_or bins k d in
          let part : units b ≤ sum_by units bins = get_or-le-sum_by units bins k d within in
          let one : 1 * units_in b.counts ≤ b.times * units_in b.counts = mul-le-mul_right (units_in b.counts) used in
          omega arith;
    }
