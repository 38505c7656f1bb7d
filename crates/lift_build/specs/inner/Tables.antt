-- Tables of sums of weights in one dimension: for each room up to the capacity the greatest sum within it.
use Rattle.std.specs.Prelude.{◌≡◌, ◌⊎◌, ℕ, ◌+◌, ◌*◌, ◌≤◌, ◌<◌, List, [], length, slice_index, slice_index_or}
use Rattle.std.specs.declared.option.Option.{Option}
use Rattle.std.specs.declared.option.Option.TheVariants.{Some, None}
use Rattle.label_graph.specs.declared.parts.Piece.{Piece}
use Rattle.weight_vec.specs.Weight.{AtMost}
use Rattle.lift_build.specs.inner.Rooms.{left_before, HasSum}

-- what is given for a room is within it, and no less than for a smaller room
pub record IsTable (table : List ℕ) : Type 0 where
  pub under : (r : ℕ) → r < length table → slice_index table r ≤ r
  pub rises : (r q : ℕ) → r ≤ q → q < length table → slice_index table r ≤ slice_index table q

-- the sum is one of the table's
abbrev pub HasMember : List ℕ → ℕ → Type 0
HasMember table s = (s < length table) × (slice_index table s ≡ s)

-- the table has all sums of the one behind it, with up to so many copies of a weight
pub record IsNextTable (behind : List ℕ) (weight copies : ℕ) (table : List ℕ) : Type 0 where
  pub count : length table ≡ length behind
  pub ordered : IsTable table
  pub multiples : (s j : ℕ) → HasMember behind s → j ≤ copies → s + j * weight < length table → slice_index table (s + j * weight) ≡ s + j * weight

-- nothing but zeros, as many as said or none
pub record AreZeros (count : ℕ) (table : List ℕ) : Type 0 where
  pub count_is : (length table ≡ 0) ⊎ (length table ≡ count)
  pub zero : (r : ℕ) → slice_index table r ≡ 0

-- the table is left out, or has all these sums
abbrev pub MayBeNext : List ℕ → ℕ → ℕ → List ℕ → Type 0
MayBeNext behind weight copies table = (length table ≡ 0) ⊎ IsNextTable behind weight copies table

-- the least number of copies is no more than j
abbrev pub IsWithin : Option ℕ → ℕ → Type 0
IsWithin None j = 1 ≤ 0
IsWithin (Some n) j = n ≤ j

-- the sum v has no more than j copies of the weight wherever it can be made with j copies
abbrev pub IsLeast : List ℕ → ℕ → ℕ → ℕ → Option ℕ → Type 0
IsLeast behind weight copies v least = (s j : ℕ) → HasMember behind s → j ≤ copies → s + j * weight ≡ v → IsWithin least j

-- a table of the last m pieces in a dimension
pub record IsSumTable {N : ℕ} (pieces : List (Piece N)) (cap : List ℕ) (m d : ℕ) (table : List ℕ) : Type 0 where
  pub count : length table ≡ slice_index cap d + 1
  pub ordered : IsTable table
  pub sums : (c : ℕ) (x : List ℕ) → AtMost x cap → HasSum cap d (HasMember table) (left_before pieces cap m c) x

-- the table is left out, or is one of the last m pieces
abbrev pub TellsSums : {N : ℕ} → List (Piece N) → List ℕ → ℕ → ℕ → List ℕ → Type 0
TellsSums pieces cap m d table = (length table ≡ 0) ⊎ IsSumTable pieces cap m d table

-- the tables of the last m pieces, dimension by dimension
pub record IsRow {N : ℕ} (pieces : List (Piece N)) (cap : List ℕ) (m : ℕ) (row : List (List ℕ)) : Type 0 where
  pub count : length row ≡ N
  pub each : (d : ℕ) → d < N → TellsSums pieces cap m d (slice_index_or row d [])

-- rows for none of the pieces, for the last one, and so on
pub record AreRows {N : ℕ} (pieces : List (Piece N)) (cap : List ℕ) (n : ℕ) (rows : List (List (List ℕ))) : Type 0 where
  pub count : length rows ≡ n
  pub each : (m : ℕ) → m < n → IsRow pieces cap m (slice_index_or rows m [])

-- the row of no pieces
pub record IsFirstRow (N : ℕ) (cap : List ℕ) (row : List (List ℕ)) : Type 0 where
  pub count : length row ≡ N
  pub each : (d : ℕ) → d < N → AreZeros (slice_index cap d + 1) (slice_index_or row d [])

-- the row with one piece more
pub record IsNextRow {N : ℕ} (behind : List (List ℕ)) (piece : Piece N) (row : List (List ℕ)) : Type 0 where
  pub count : length row ≡ N
  pub each : (d : ℕ) → d < N → MayBeNext (slice_index_or behind d []) (slice_index piece.weight d) piece.copies (slice_index_or row d [])

-- what a weight is lifted to in one dimension: no less, and no more than each of the table's sums leaves room for
pub record IsLiftAt (table : List ℕ) (most used lifted : ℕ) : Type 0 where
  pub low : used ≤ lifted
  pub left_out : length table ≡ 0 → lifted ≡ used
  pub sums : (s : ℕ) → HasMember table s → used + s ≤ most → lifted + s ≤ most

-- and in all dimensions
pub record IsLiftBy (N : ℕ) (row : List (List ℕ)) (cap used lifted : List ℕ) : Type 0 where
  pub sized : length lifted ≡ N
  pub each : (d : ℕ) → d < N → IsLiftAt (slice_index_or row d []) (slice_index cap d) (slice_index used d) (slice_index lifted d)
