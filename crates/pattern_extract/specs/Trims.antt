-- Bins that hold more than is asked for, and how units are taken out of them.
use Rattle.std.specs.Prelude.{◌≡◌, ℕ, ◌+◌, ◌-◌, ◌*◌, ◌<◌, ◌≤◌, ◌==◌, if◌then◌else◌, List, [], ◌∷◌, ◌++◌, All, Some, length, map, sum_by, slice_get, slice_index}
use Rattle.packing_laws.specs.declared.packings.Count.{Count}
use Rattle.packing_laws.specs.declared.packings.Bin.{Bin}
use Rattle.packing_laws.specs.Instances.{InstanceValue, IsAmong, item_at}
use Rattle.packing_laws.specs.Packings.{Content, Fits, count_of_item, count_of_form}

-- how many units of item i the bins hold, each bin as often as it is used
abbrev pub held : ℕ → List Bin → ℕ
held i bins = sum_by (λ b. b.times * count_of_item i b.counts) bins

-- a number of each type, added up over the bins, each as often as it is used
abbrev pub over_types : (ℕ → ℕ) → List Bin → ℕ
over_types w bins = sum_by (λ b. b.times * w b.bin_type) bins

-- what is surplus of an item; the places of a table count from 0
abbrev pub surplus_at : List ℕ → ℕ → ℕ
surplus_at surplus i = slice_index surplus (i - 1)

-- a count once so many units are taken out; nothing where that is all
abbrev pub rest_of : Count → ℕ → Content
rest_of n taken = if taken == n.count then [] else record n { count = n.count - taken } ∷ []

-- of no form more stands in the one content than in the other
abbrev pub IsBelow : Content → Content → Type 0
IsBelow c d = (i f : ℕ) → count_of_form i f c ≤ count_of_form i f d

-- a bin beside the place, from 0, of one of the given bins: it is of that one's type, and holds no more
pub record IsBinPart (given : List Bin) (part : ℕ × Bin) : Type 0 where
  pub whole : Bin
  pub there : slice_get given part.0 ≡ Some whole
  pub same_type : part.1.bin_type ≡ whole.bin_type
  pub below : IsBelow part.1.counts whole.counts

-- how often the parts of the bin at this place are used together
abbrev pub times_of : ℕ → List (ℕ × Bin) → ℕ
times_of place parts = sum_by (λ part. if part.0 == place then part.1.times else 0) parts

-- each bin is a part of a given one, and the parts of a given bin are together used as often as it
pub record AreParts (given bins : List Bin) : Type 0 where
  pub parts : List (ℕ × Bin)
  pub all : map (λ part. part.1) parts ≡ bins
  pub each : All (IsBinPart given) parts
  pub times : (place : ℕ) (whole : Bin) → slice_get given place ≡ Some whole → times_of place parts ≡ whole.times

-- surplus units are taken out of so many bins with these counts, from each alike, until less is surplus than there are bins
pub record IsReduced (times : ℕ) (old new : Content) (before after : List ℕ) : Type 0 where
  pub fits : (I : InstanceValue) (t : ℕ) → Fits I t old → Fits I t new
  pub below : IsBelow new old
  pub items : (m : ℕ) → All (λ n. IsAmong n.item m) old → All (λ n. IsAmong n.item m) new
  pub units : (i : ℕ) → 1 ≤ i → times * count_of_item i old + surplus_at after i ≡ times * count_of_item i new + surplus_at before i
  pub small : All (λ n. surplus_at after n.item < times) new
  pub falls : (k : ℕ) → slice_index after k ≤ slice_index before k

-- a bin of the same type that is used so often, with these counts
abbrev pub refilled : Bin → ℕ → Content → Bin
refilled b times counts = record { bin_type = b.bin_type; times = times; counts = counts }

-- a bin that is used, and fits
pub record IsUsedBin (I : InstanceValue) (b : Bin) : Type 0 where
  pub times : 1 ≤ b.times
  pub fits : Fits I b.bin_type b.counts

-- nothing is surplus of what is in the bin
abbrev pub IsLean : List ℕ → Bin → Type 0
IsLean surplus b = All (λ n. surplus_at surplus n.item ≡ 0) b.counts

-- the given bins are trimmed so far: some are still to be trimmed and some are done, and this much is surplus in them
pub record AreTrimmed (I : InstanceValue) (given pending done : List Bin) (surplus : List ℕ) : Type 0 where
  pub size : length surplus ≡ length I.items
  pub waiting : All (IsUsedBin I) pending
  pub ready : All (IsUsedBin I) done
  pub lean : All (IsLean surplus) done
  pub types : (w : ℕ → ℕ) → over_types w given ≡ over_types w pending + over_types w done
  pub parts : AreParts given (pending ++ done)
  pub units : (i : ℕ) → IsAmong i (length I.items) → held i pending + held i done ≡ (item_at I i).demand + surplus_at surplus i

-- what was to be trimmed and done before is trimmed on
abbrev pub IsTrimmedOn : List Bin → List Bin → List ℕ → List Bin → List Bin → List ℕ → Type 0
IsTrimmedOn pending done surplus pending' done' surplus' = (I : InstanceValue) (given : List Bin) → AreTrimmed I given pending done surplus → AreTrimmed I given pending' done' surplus'

-- how much work there is in the bins at most: each can be split until it is used once
abbrev pub work_in : List Bin → ℕ
work_in bins = sum_by (λ b. b.times + b.times - 1) bins

-- the bins are those that were given, but for surplus units: of each type as many, and each demand is met exactly
pub record MeetDemands (I : InstanceValue) (given bins : List Bin) : Type 0 where
  pub each : All (IsUsedBin I) bins
  pub types : (w : ℕ → ℕ) → over_types w bins ≡ over_types w given
  pub parts : AreParts given bins
  pub units : (i : ℕ) → IsAmong i (length I.items) → held i bins ≡ (item_at I i).demand
