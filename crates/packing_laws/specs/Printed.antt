-- Packings as they are written down: bins, each with the number of times that it is used.
use Rattle.std.specs.Prelude.{◌≡◌, ℕ, ◌^◌, ◌<◌, ◌≤◌, Bool, if◌then◌else◌, List, [], ◌∷◌, All, length, replicate, sum_by, filter, nat_lt}
use Rattle.std.specs.List.{flat_map}
use Rattle.std.specs.List.Sorted.{IsStrictlySortedBy, IsPermutation}
use Rattle.std.specs.Ordering.{nat_cmp, ordering_then}
use Rattle.std.specs.Cmp.Lexicographic.{slice_cmp}
use Rattle.std.specs.declared.cmp.Ordering.{Ordering}
use Rattle.packing_laws.specs.declared.packings.Count.{Count}
use Rattle.packing_laws.specs.declared.packings.Bin.{Bin}
use Rattle.packing_laws.specs.Instances.{InstanceValue, IsInstance}
use Rattle.packing_laws.specs.Packings.{Content, Bins, Fits, IsPacking, cost_of, count_of_form}

-- the bins that are meant: each as often as it is used
abbrev pub bins_of : List Bin → Bins
bins_of bins = flat_map (λ b. replicate b.times (b.bin_type, b.counts)) bins

-- the bins that are meant are a packing; a bin that is used no time at all fits too
pub record IsWrittenPacking (I : InstanceValue) (bins : List Bin) : Type 0 where
  pub fits : All (λ b. Fits I b.bin_type b.counts) bins
  pub packing : IsPacking I (bins_of bins)

-- two contents have as many of each form
abbrev pub SameContent : Content → Content → Type 0
SameContent c d = (i f : ℕ) → count_of_form i f c ≡ count_of_form i f d

-- the order of forms: by item, then by form
abbrev pub form_cmp : Count → Count → Ordering
form_cmp m n = ordering_then (nat_cmp m.item n.item) (nat_cmp m.form n.form)

-- the order of counts: by item, by form, and then by how many
abbrev pub count_cmp : Count → Count → Ordering
count_cmp m n = ordering_then (nat_cmp m.item n.item) (ordering_then (nat_cmp m.form n.form) (nat_cmp m.count n.count))

-- the order of bins: by type, then by what is in them
abbrev pub bin_cmp : Bin → Bin → Ordering
bin_cmp a b = ordering_then (nat_cmp a.bin_type b.bin_type) (slice_cmp count_cmp a.counts b.counts)

-- each form stands once, in order, with a count above 0
pub record IsTidyContent (c : Content) : Type 0 where
  pub order : IsStrictlySortedBy form_cmp c
  pub positive : All (λ n. 0 < n.count) c

-- a bin that is used, and is not empty
pub record IsTidyBin (b : Bin) : Type 0 where
  pub used : 0 < b.times
  pub filled : 0 < length b.counts
  pub content : IsTidyContent b.counts

-- the printed form: tidy bins, those alike written once, in order
pub record IsTidy (bins : List Bin) : Type 0 where
  pub each : All IsTidyBin bins
  pub order : IsStrictlySortedBy bin_cmp bins

-- how many units are in a content
abbrev pub units_in : Content → ℕ
units_in c = sum_by (λ n. n.count) c

-- the bin holds some unit
abbrev pub holds_units : Bin → Bool
holds_units b = nat_lt 0 (units_in b.counts)

-- the sums of the printed form fit: the times of the bins that hold some unit, and what is in each bin that is used
pub record SumsFit (bins : List Bin) : Type 0 where
  pub times : sum_by (λ b. if holds_units b then b.times else 0) bins < 2 ^ 32
  pub counts : All (λ b. 0 < b.times → units_in b.counts < 2 ^ 32) bins

-- the sums of every packing of an instance fit
abbrev pub PackingsFit : Type 0
PackingsFit = (I : InstanceValue) (bins : List Bin) → IsInstance I → IsWrittenPacking I bins → SumsFit bins

-- the bins that are not empty
abbrev pub filled_bins : Bins → Bins
filled_bins P = filter (λ b. nat_lt 0 (units_in b.1)) P

-- one bin after the other, the types are equal and the contents have as many of each form
abbrev pub AreAlike : Bins → Bins → Type 0
AreAlike [] [] = Unit {0}
AreAlike (b ∷ P) (c ∷ Q) = (b.0 ≡ c.0) × SameContent b.1 c.1 × AreAlike P Q
AreAlike [] (c ∷ Q) = ⊥
AreAlike (b ∷ P) [] = ⊥

-- the new bins are in the printed form, and they are the old ones that are not empty, in some order
pub record IsTidied (old new : List Bin) : Type 0 where
  pub tidy : IsTidy new
  pub order : Bins
  pub rearranged : IsPermutation (filled_bins (bins_of old)) order
  pub alike : AreAlike order (bins_of new)

-- a packing of bins that each hold some unit, which costs no more than the other bins
pub record IsLeanPacking (I : InstanceValue) (P Q : Bins) : Type 0 where
  pub packing : IsPacking I Q
  pub filled : All (λ b. 0 < units_in b.1) Q
  pub cost : cost_of I Q ≤ cost_of I P

-- a packing without its empty bins is a packing, and costs no more
abbrev pub EmptyBinsCanGo : Type 0
EmptyBinsCanGo = (I : InstanceValue) (P : Bins) → IsPacking I P → IsLeanPacking I P (filled_bins P)
