-- Packings that are under way.
use Rattle.std.specs.Prelude.{◌≡◌, ℕ, ◌+◌, ◌-◌, ◌*◌, ◌≤◌, List, length, All, IfSome, sum_by, ◌==◌, if◌then◌else◌, slice_index}
use Rattle.packing_laws.specs.declared.packings.Bin.{Bin}
use Rattle.packing_laws.specs.Instances.{InstanceValue, IsAmong, type_at, item_at}
use Rattle.packing_laws.specs.Packings.{Fits, count_of_item}

-- how many units of item i are in the bins
abbrev pub packed_of : ℕ → List Bin → ℕ
packed_of i bins = sum_by (λ b. b.times * count_of_item i b.counts) bins

-- how many of the bins are of type t
abbrev pub taken_of : ℕ → List Bin → ℕ
taken_of t bins = sum_by (λ b. b.times * (if b.bin_type == t then 1 else 0)) bins

-- each bin fits; what is in them and what is left of an item are its demand; no more bins than the limit of a type
-- says are taken of it, together with those that are still free
pub record IsStage (I : InstanceValue) (rest free : List ℕ) (bins : List Bin) : Type 0 where
  pub items : length rest ≡ length I.items
  pub types : length free ≡ length I.types
  pub fits : All (λ b. Fits I b.bin_type b.counts) bins
  pub limits : (t : ℕ) → IsAmong t (length I.types) → IfSome (type_at I t).limit (λ q. taken_of t bins + slice_index free (t - 1) ≤ q)
  pub demands : (i : ℕ) → IsAmong i (length I.items) → packed_of i bins + slice_index rest (i - 1) ≡ (item_at I i).demand
