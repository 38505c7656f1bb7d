-- Weights as lists of numbers. A place past the end of a list counts as 0.
use Rattle.std.specs.Prelude.{◌≡◌, ℕ, ◌+◌, ◌-◌, ◌^◌, ◌≤◌, ◌<◌, List, [], ◌∷◌, min, max, slice_index}
use Rattle.std.specs.Ordering.{nat_cmp}
use Rattle.std.specs.declared.cmp.Ordering.TheVariants.{Less}
use Rattle.std.specs.Cmp.Lexicographic.{slice_cmp}

-- the sums, place by place
abbrev pub plus : List ℕ → List ℕ → List ℕ
plus [] ys = ys
plus (x ∷ xs) [] = x ∷ xs
plus (x ∷ xs) (y ∷ ys) = (x + y) ∷ plus xs ys

-- the differences, place by place
abbrev pub minus : List ℕ → List ℕ → List ℕ
minus [] ys = []
minus (x ∷ xs) [] = x ∷ xs
minus (x ∷ xs) (y ∷ ys) = (x - y) ∷ minus xs ys

-- the smaller numbers, place by place
abbrev pub lower : List ℕ → List ℕ → List ℕ
lower [] ys = []
lower (x ∷ xs) [] = []
lower (x ∷ xs) (y ∷ ys) = min x y ∷ lower xs ys

-- the greater numbers, place by place
abbrev pub higher : List ℕ → List ℕ → List ℕ
higher [] ys = ys
higher (x ∷ xs) [] = x ∷ xs
higher (x ∷ xs) (y ∷ ys) = max x y ∷ higher xs ys

-- at most as much in each place
abbrev pub AtMost : List ℕ → List ℕ → Type 0
AtMost xs ys = (d : ℕ) → slice_index xs d ≤ slice_index ys d

-- each number is below 2^32
abbrev pub IsInRange : List ℕ → Type 0
IsInRange xs = (d : ℕ) → slice_index xs d < 2 ^ 32

-- no number of the list is above 0
abbrev pub IsZero : List ℕ → Type 0
IsZero xs = (d : ℕ) → slice_index xs d ≡ 0

-- earlier in lexicographic order
abbrev pub Before : List ℕ → List ℕ → Type 0
Before xs ys = slice_cmp nat_cmp xs ys ≡ Less
