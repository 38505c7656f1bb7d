-- Laws of weights: order, sums and padding.
use Rattle.std.specs.Prelude.{◌≡◌, ◌≢◌, ◌↔◌, ℕ, List, ◌++◌, length, replicate}
use Rattle.std.specs.Ordering.{nat_cmp}
use Rattle.std.specs.Cmp.Lexicographic.{slice_cmp}
use Rattle.weight_vec.specs.Weight.{AtMost, Before, plus}

-- what is at most in each place and differs comes before in order
abbrev pub AtMostComesBefore : Type 0
AtMostComesBefore = (xs ys : List ℕ) → length xs ≡ length ys → AtMost xs ys → xs ≢ ys → Before xs ys

-- sums keep order
abbrev pub SumsKeepOrder : Type 0
SumsKeepOrder = (xs ys zs : List ℕ) → length xs ≡ length ys → length zs ≡ length xs → Before xs ys → Before (plus xs zs) (plus ys zs)

-- zeros at the end of both sides change nothing of what fits
abbrev pub PaddingKeepsFits : Type 0
PaddingKeepsFits = (xs ys : List ℕ) (n : ℕ) → AtMost (xs ++ replicate n 0) (ys ++ replicate n 0) ↔ AtMost xs ys

-- zeros at the end of both sides change nothing of the order
abbrev pub PaddingKeepsOrder : Type 0
PaddingKeepsOrder = (xs ys : List ℕ) (n : ℕ) → length xs ≡ length ys → slice_cmp nat_cmp (xs ++ replicate n 0) (ys ++ replicate n 0) ≡ slice_cmp nat_cmp xs ys
