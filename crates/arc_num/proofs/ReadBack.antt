-- What is written for a number is read as this number.
use Rattle.std.proofs.Common.{◌≡◌, ℕ, ◌<◌, ◌^◌, true, List, length, arith, rules}
use Rattle.std.specs.Prelude.{decimal}
use Rattle.std.specs.List.{list_all}
use Rattle.std.specs.Char.{is_ascii_digit}
use Rattle.std.proofs.lemmas.Str.Parse.{IsNumeralModel, numerals_by_weight}
use Rattle.std.proofs.lemmas.Fmt.{digits_decimal, digits_value-decimal, decimal_nonempty}
use Rattle.arc_num.specs.Decimals.{are_digits, value_of, ReadsBack}

own : IsNumeralModel (λ (ds : List ℕ). list_all is_ascii_digit ds ≡ true) value_of
own = numerals_by_weight (λ (ds : List ℕ). list_all is_ascii_digit ds ≡ true) (search rules) value_of (search rules)

filled_digits : (field : List ℕ) → 0 < length field → list_all is_ascii_digit field ≡ true → are_digits field ≡ true
filled_digits field filled digits = grind arith

pub decimal_reads_back : (n : ℕ) → n < 2 ^ 64 → ReadsBack n
decimal_reads_back n small = record {
  digits = filled_digits (decimal n) (decimal_nonempty n small) (digits_decimal own n small);
  value = digits_value-decimal own n small;
}
