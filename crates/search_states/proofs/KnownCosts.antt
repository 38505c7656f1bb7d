-- What a packing in the printed form costs is small.
use Rattle.std.proofs.Common.{◌≡◌, ℕ, ◌+◌, ◌-◌, ◌*◌, ◌≤◌, ◌<◌, Bool, true, false, cond, ◌==◌, None, List, [], ◌∷◌, length, sum_by, All, arith}
use Rattle.std.proofs.Math.Nat.{mul-le-mul_left}
use Rattle.std.proofs.lemmas.List.Elements.{All-head, All-tail}
use Rattle.std.proofs.lemmas.List.Sums.{sum_by-cons}
use Rattle.arc_num.specs.declared.TheConstants.{MAX_PRICE, MAX_VALUE}
use Rattle.packing_laws.specs.declared.instances.BinType.{BinType}
use Rattle.packing_laws.specs.declared.packings.Bin.{Bin}
use Rattle.packing_laws.specs.declared.packings.Count.{Count}
use Rattle.packing_laws.specs.Instances.{InstanceValue, IsAmong, IsInstance, type_at}
use Rattle.packing_laws.specs.Packings.{Content, Fits, cost_at, cost_of}
use Rattle.packing_laws.specs.Printed.{IsTidy, IsTidyBin, IsWrittenPacking, bins_of, units_in}
use Rattle.packing_laws.proofs.WrittenSums.{cost_of-bins_of}
use Rattle.packing_laws.proofs.WrittenUnits.{written-units}

cond_most : (b : Bool) (x : ℕ) → cond b 0 x ≤ x
cond_most true x = omega arith
cond_most false x = omega arith

pub type_cost_small : (I : InstanceValue) (t : ℕ) → IsInstance I → IsAmong t (length I.types) → cost_at I t ≤ MAX_VALUE
type_cost_small I t instance among =
    let nothing : BinType = record { cap = []; cost = 0; limit = None } in
    let own : (type_at I t).cost ≤ MAX_VALUE = (instance.types (t - 1) nothing (omega (arith, among.0, among.1))).cost in
    let most = cond_most (t == 0) (type_at I t).cost in
    omega (arith, own, most)

some_units : (c : Content) → 0 < length c → All (λ n. 0 < n.count) c → 1 ≤ units_in c
some_units [] filled positive = absurd (omega (arith, filled))
some_units (n ∷ c) filled positive =
    let own = All-head (λ (m : Count). 0 < m.count) n c positive in
    let all : units_in (n ∷ c) ≡ n.count + units_in c = sum_by-cons (λ (m : Count). m.count) n c in
    omega (arith, own, all)

bins_cost : (I : InstanceValue) → IsInstance I → (bins : List Bin) → All (λ b. Fits I b.bin_type b.counts) bins → All IsTidyBin bins → sum_by (λ b. b.times * cost_at I b.bin_type) bins ≤ 2147483647 * sum_by (λ b. b.times * units_in b.counts) bins
bins_cost I instance [] fits tidy = omega arith
bins_cost I instance (b ∷ bins) fits tidy =
    let rest = bins_cost I instance bins (All-tail (λ (x : Bin). Fits I x.bin_type x.counts) b bins fits) (All-tail IsTidyBin b bins tidy) in
    let own = All-head IsTidyBin b bins tidy in
    let cost : cost_at I b.bin_type ≤ 2147483647 = type_cost_small I b.bin_type instance (All-head (λ (x : Bin). Fits I x.bin_type x.counts) b bins fits).bin_type in
    let units = some_units b.counts own.filled own.content.positive in
    let dear : b.times * cost_at I b.bin_type ≤ b.times * 2147483647 = mul-le-mul_left b.times cost in
    let full : b.times * 1 ≤ b.times * units_in b.counts = mul-le-mul_left b.times units in
    let left : sum_by (λ (x : Bin). x.times * cost_at I x.bin_type) (b ∷ bins) ≡ b.times * cost_at I b.bin_type + sum_by (λ (x : Bin). x.times * cost_at I x.bin_type) bins = sum_by-cons (λ (x : Bin). x.times * cost_at I x.bin_type) b bins in
    let right : sum_by (λ (x : Bin). x.times * units_in x.counts) (b ∷ bins) ≡ b.times * units_in b.counts + sum_by (λ (x : Bin). x.times * units_in x.counts) bins = sum_by-cons (λ (x : Bin). x.times * units_in x.counts) b bins in
    omega (arith, rest, dear, full, left, right)

pub cost_small : (I : InstanceValue) (bins : List Bin) → IsInstance I → IsWrittenPacking I bins → IsTidy bins → cost_of I (bins_of bins) ≤ MAX_PRICE
cost_small I bins instance written tidy =
    let value = cost_of-bins_of I bins in
    let cost = bins_cost I instance bins written.fits tidy.each in
    let units : sum_by (λ b. b.times * units_in b.counts) bins ≤ 1000000000 = written-units I bins instance written in
    omega (arith, value, cost, units)
