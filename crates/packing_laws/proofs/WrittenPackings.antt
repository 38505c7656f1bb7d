-- What is asked of the bins that are meant, by the bins as they are written.
use Rattle.std.proofs.Common.{◌≡◌, ℕ, ◌+◌, ◌-◌, ◌*◌, ◌<◌, ◌≤◌, ◌∙◌, List, [], length, take, cond, ◌==◌, Option, None, IfSome, All, sum_by, ap, arith, get_or}
use Rattle.std.proofs.lemmas.List.{get_or_default}
use Rattle.std.proofs.lemmas.List.Sums.{sum_by_more_le}
use Rattle.std.proofs.lemmas.Option.{IfSome_then}
use Rattle.packing_laws.specs.declared.instances.BinType.{BinType}
use Rattle.packing_laws.specs.declared.packings.Count.{Count}
use Rattle.packing_laws.specs.declared.packings.Bin.{Bin}
use Rattle.packing_laws.specs.Instances.{InstanceValue, IsAmong, type_at, item_at}
use Rattle.packing_laws.specs.Packings.{Content, Fits, count_of_item, all_of, used_of}
use Rattle.packing_laws.specs.Printed.{bins_of, IsWrittenPacking}
use Rattle.packing_laws.proofs.Sums.{sum_by-flat_map}
use Rattle.packing_laws.proofs.WrittenSums.{sum_by-bins_of}
use Rattle.packing_laws.proofs.OneUnitBins.{All-bins_of}

-- how many bins of a type are used
pub used_of-bins_of : (t : ℕ) (bins : List Bin) → used_of t (bins_of bins) ≡ sum_by (λ b. b.times * cond (b.bin_type == t) 1 0) bins
used_of-bins_of t bins = sum_by-bins_of (λ b. cond (b.0 == t) 1 0) bins

-- how many units of an item they hold
pub count_of_item-bins_of : (i : ℕ) (bins : List Bin) → count_of_item i (all_of (bins_of bins)) ≡ sum_by (λ b. b.times * count_of_item i b.counts) bins
count_of_item-bins_of i bins =
    sum_by-flat_map (λ (m : Count). cond (m.item == i) m.count 0) (λ (b : ℕ × Content). b.1) (bins_of bins) ∙ sum_by-bins_of (λ b. count_of_item i b.1) bins

-- bins so far that hold too much leave no way to hold just as much as is asked for
pub passed : (f : Bin → ℕ) (bins : List Bin) (k left whole : ℕ) (b : Bin) → k < length bins → b ≡ get_or bins k b → sum_by f (take k bins) + left ≡ whole → left < f b → sum_by f bins ≡ whole → ⊥
passed f bins k left whole b within here sofar much exact =
    let more : sum_by f (take k bins) + f (get_or bins k b) ≤ sum_by f bins = sum_by_more_le f bins k b within in
    let same : f b ≡ f (get_or bins k b) = ap f here in
    omega arith

-- a number within a limit, and one that is no greater
pub limit-less : (limit : Option ℕ) (m n : ℕ) → m ≤ n → IfSome limit (λ q. n ≤ q) → IfSome limit (λ q. m ≤ q)
limit-less limit m n less within = IfSome_then limit within (λ q most. omega (arith, less, most))

-- the fits, the limits and the demands are all that is asked
pub IsWrittenPacking-made : (I : InstanceValue) (bins : List Bin) → All (λ b. Fits I b.bin_type b.counts) bins → ((t : ℕ) → IsAmong t (length I.types) → IfSome (type_at I t).limit (λ q. used_of t (bins_of bins) ≤ q)) → ((i : ℕ) → IsAmong i (length I.items) → count_of_item i (all_of (bins_of bins)) ≡ (item_at I i).demand) → IsWrittenPacking I bins
IsWrittenPacking-made I bins fits limits demands = record {
  fits = fits;
  packing = record { fits = All-bins_of (λ b. Fits I b.0 b.1) bins fits; limits = limits; demands = demands };
}

-- a type that a loop over the types has come to, by its number
pub type-by_number : (I : InstanceValue) (xs : List BinType) (n : ℕ) (x : BinType) → xs ≡ I.types → n < length xs → x ≡ get_or xs n x → x ≡ type_at I (n + 1)
type-by_number I xs n x same within here =
    let e : n + 1 - 1 ≡ n = omega arith in
    let nothing : BinType = record { cap = []; cost = 0; limit = None } in
    let there : x ≡ get_or I.types n nothing = here ∙ get_or_default xs n x nothing within ∙ ap (λ (ys : List BinType). get_or ys n nothing) same in
    rw e there
