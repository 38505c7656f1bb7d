-- Bins that are joined as long as two of them fit one.
use Rattle.std.specs.Prelude.{◌≡◌, ℕ, ◌+◌, ◌*◌, ◌/◌, ◌%◌, ◌<◌, ◌≤◌, ◌⊎◌, List, [], ◌∷◌, ◌++◌, length, All, sum_by, slice_index_or}
use Rattle.std.specs.List.{AllPairs}
use Rattle.packing_laws.specs.declared.packings.Bin.{Bin}
use Rattle.packing_laws.specs.Instances.{InstanceValue}
use Rattle.packing_laws.specs.Packings.{Content, Fits, cost_of}
use Rattle.packing_laws.specs.Printed.{bins_of, IsWrittenPacking, IsTidyContent, SameContent}

-- what is in both bins, taken together, does not fit the type of either
abbrev pub StayApart : InstanceValue → ℕ × Content → ℕ × Content → Type 0
StayApart I b c = (Fits I b.0 (b.1 ++ c.1) → ⊥) × (Fits I c.0 (b.1 ++ c.1) → ⊥)

-- the bins stay apart, if both are used
abbrev pub AreApart : InstanceValue → Bin → Bin → Type 0
AreApart I b c = 0 < b.times → 0 < c.times → StayApart I (b.bin_type, b.counts) (c.bin_type, c.counts)

-- no two bins can be joined, nor can two that are written as one
pub record AreJoined (I : InstanceValue) (bins : List Bin) : Type 0 where
  pub pairs : AllPairs (AreApart I) bins
  pub alike : All (λ b. 1 < b.times → StayApart I (b.bin_type, b.counts) (b.bin_type, b.counts)) bins

-- the type is that of one of the bins, and what is in both fits it
pub record IsSharedType (I : InstanceValue) (b c : Bin) (t : ℕ) : Type 0 where
  pub fits : Fits I t (b.counts ++ c.counts)
  pub either : (t ≡ b.bin_type) ⊎ (t ≡ c.bin_type)

-- the bin at this place is used, and can be joined with another one
pub record IsPartner (I : InstanceValue) (bins : List Bin) (c : Bin) (k t : ℕ) : Type 0 where
  pub within : k < length bins
  pub used : (d : Bin) → 0 < (slice_index_or bins k d).times
  pub shared : (d : Bin) → IsSharedType I (slice_index_or bins k d) c t

-- so many bins of a type hold both contents, in the printed form
pub record IsMadeOf (t number : ℕ) (c d : Content) (b : Bin) : Type 0 where
  pub bin_type : b.bin_type ≡ t
  pub times : b.times ≡ number
  pub same : SameContent (c ++ d) b.counts
  pub content : IsTidyContent b.counts

-- of the bins that are alike two by two became one, and one may be left
abbrev pub IsHalved : Bin → ℕ → List Bin → List Bin → Type 0
IsHalved b t old new = (both : Bin) × IsMadeOf t (b.times / 2) b.counts b.counts both × (new ≡ (old ++ record { bin_type = b.bin_type; times = b.times % 2; counts = b.counts } ∷ []) ++ both ∷ [])

-- how much is left to do, with bins that are waiting and bins that are done: it falls with each step
abbrev pub work_of : List Bin → List Bin → ℕ
work_of waiting done = 2 * (sum_by (λ b. b.times) waiting + sum_by (λ b. b.times) done) + length waiting

-- a step from some bins to others: a packing stays one and costs no more, those that are done stay joined
pub record IsStep (I : InstanceValue) (waiting done new_waiting new_done : List Bin) : Type 0 where
  pub packing : IsWrittenPacking I (new_waiting ++ new_done)
  pub cost : cost_of I (bins_of (new_waiting ++ new_done)) ≤ cost_of I (bins_of (waiting ++ done))
  pub joined : AreJoined I new_done
  pub work : work_of new_waiting new_done < work_of waiting done
