-- The kept lines of a packing: its printed form, and behind it the bins that hold nothing, type by type.
use Rattle.std.specs.Prelude.{◌≡◌, ℕ, zero, suc, ◌==◌, if◌then◌else◌, List, [], ◌∷◌, ◌++◌, length, sum_by}
use Rattle.packing_laws.specs.declared.packings.Bin.{Bin}
use Rattle.packing_laws.specs.Instances.{InstanceValue}
use Rattle.packing_laws.specs.Printed.{holds_units, IsTidied}

-- how many bins of type t hold nothing
abbrev pub empties_of : ℕ → List Bin → ℕ
empties_of t bins = sum_by (λ b. if holds_units b then 0 else (if b.bin_type == t then b.times else 0)) bins

-- so many bins of type t that hold nothing, in one line; none for no bin
abbrev pub empty_line : ℕ → ℕ → List Bin
empty_line t zero = []
empty_line t (suc n) = record { bin_type = t; times = suc n; counts = [] } ∷ []

-- the bins of types 1 to q that hold nothing, a line for each type
abbrev pub empty_lines : ℕ → List Bin → List Bin
empty_lines zero bins = []
empty_lines (suc q) bins = empty_lines q bins ++ empty_line (suc q) (empties_of (suc q) bins)

-- the kept lines of bins of an instance
pub record IsKept (I : InstanceValue) (bins kept : List Bin) : Type 0 where
  pub tidied : List Bin
  pub is_tidied : IsTidied bins tidied
  pub all : kept ≡ tidied ++ empty_lines (length I.types) bins
