-- Numbers in decimal digits.
use Rattle.std.specs.Prelude.{◌≡◌, ◌<◌, true, ℕ, suc, ◌+◌, ◌-◌, ◌*◌, ◌^◌, Bool, ◌&&◌, not, ◌==◌, nat_lt, if◌then◌else◌, List, [], ◌∷◌, length, ◌++◌, Option, Some, None, ℤ, pos, negsuc, codes, decimal}
use Rattle.std.specs.List.{list_all}
use Rattle.std.specs.Char.{is_ascii_digit}

-- the text is not empty and has digits alone
abbrev pub are_digits : List ℕ → Bool
are_digits bs = not (length bs == 0) && list_all is_ascii_digit bs

-- what digits stand for: each counts by its place
abbrev pub value_of : List ℕ → ℕ
value_of [] = 0
value_of (c ∷ cs) = (c - 48) * 10 ^ length cs + value_of cs

-- the value of the digits, where it is below 2^64
abbrev pub number_of : List ℕ → Option ℕ
number_of bs = if are_digits bs && nat_lt (value_of bs) (2 ^ 64) then Some (value_of bs) else None

-- the decimal text of a signed number: a minus sign stands before a number below 0
abbrev pub signed_decimal : ℤ → List ℕ
signed_decimal (pos n) = decimal n
signed_decimal (negsuc n) = codes "-" ++ decimal (suc n)

-- the decimal text of a number is of digits alone, and stands for the number
pub record ReadsBack (n : ℕ) : Type 0 where
  pub digits : are_digits (decimal n) ≡ true
  pub value : value_of (decimal n) ≡ n

-- decimal text and value agree, for all numbers of 64 bits
abbrev pub DecimalsReadBack : Type 0
DecimalsReadBack = (n : ℕ) → n < 2 ^ 64 → ReadsBack n
