-- What is written for a number is read as this number, and is a field.
use Rattle.std.proofs.Common.{suc, ◌≡◌, ℕ, ◌<◌, ◌≤◌, ◌^◌, Bool, true, false, List, [], ◌∷◌, length, Some, ℤ, pos, negsuc, refl, arith}
use Rattle.std.specs.Prelude.{◌&&◌, ◌==◌, not, codes, decimal, bytes_eq, take, nat_abs}
use Rattle.std.specs.List.{list_all}
use Rattle.std.specs.Char.{is_ascii_digit}
use Rattle.std.proofs.lemmas.Bool.Decides.{nat_tests}
use Rattle.arc_num.proofs.ReadBack.{decimal_reads_back}
use Rattle.arc_num.specs.Decimals.{are_digits, value_of, signed_decimal}
use Rattle.mps_text.specs.Meaning.{is_visible, size_in, value_in, bound_in}

pub both : (a b : Bool) → (a && b) ≡ true → (a ≡ true) × (b ≡ true)
both true b h = (refl, h)
both false b h = absurd (cc)

pub joint : (a b : Bool) → a ≡ true → b ≡ true → (a && b) ≡ true
joint true b x y = y
joint false b x y = absurd (cc)

-- the text of a number: not empty, and digits alone
record IsText (n : ℕ) : Type 0 where
  pub filled : 0 < length (decimal n)
  pub digits : list_all is_ascii_digit (decimal n) ≡ true

filled_text : (field : List ℕ) → not (length field == 0) ≡ true → 0 < length field
filled_text field h = grind (arith, nat_tests)

text_of : (n : ℕ) → n < 2 ^ 64 → IsText n
text_of n small =
    let parts = both (not (length (decimal n) == 0)) (list_all is_ascii_digit (decimal n)) (decimal_reads_back n small).digits in
    record { filled = filled_text (decimal n) parts.0; digits = parts.1 }

size_of_digits : (field : List ℕ) (n : ℕ) → are_digits field ≡ true → value_of field ≡ n → n ≤ 2 ^ 62 → size_in field ≡ Some n
size_of_digits field n digits value small = grind (arith, nat_tests)

pub size_written : (n : ℕ) → n ≤ 2 ^ 62 → size_in (decimal n) ≡ Some n
size_written n h =
    let read = decimal_reads_back n (omega arith) in
    size_of_digits (decimal n) n read.digits read.value h

no_sign : (field : List ℕ) → 0 < length field → list_all is_ascii_digit field ≡ true → bytes_eq (take 1 field) (codes "-") ≡ false
no_sign [] h d = absurd (omega arith)
no_sign (c ∷ cs) h d = grind arith

-- digits are visible
digit_shows : (c : ℕ) → is_ascii_digit c ≡ true → is_visible c ≡ true
digit_shows c h = grind (arith, nat_tests)

pub digits_show : (ds : List ℕ) → list_all is_ascii_digit ds ≡ true → list_all is_visible ds ≡ true
digits_show [] h = refl
digits_show (c ∷ cs) h =
    let parts = both (is_ascii_digit c) (list_all is_ascii_digit cs) h in
    joint (is_visible c) (list_all is_visible cs) (digit_shows c parts.0) (digits_show cs parts.1)

-- a field: not empty, each byte visible
abbrev pub IsField : List ℕ → Type 0
IsField f = (0 < length f) × (list_all is_visible f ≡ true)

pub decimal_field : (n : ℕ) → n ≤ 2 ^ 62 → IsField (decimal n)
decimal_field n h = let text = text_of n (omega arith) in (text.filled, digits_show (decimal n) text.digits)

pub signed_field : (z : ℤ) → nat_abs z ≤ 2 ^ 62 → IsField (signed_decimal z)
signed_field (pos n) h = decimal_field n h
signed_field (negsuc n) h = let rest = decimal_field (suc n) h in (omega arith, rest.1)

value_plain : (field : List ℕ) (n : ℕ) → bytes_eq (take 1 field) (codes "-") ≡ false → size_in field ≡ Some n → value_in field ≡ Some (pos n)
value_plain field n sign size = rw (sign, size) refl

value_negative : (field : List ℕ) (n : ℕ) → size_in field ≡ Some (suc n) → value_in (45 ∷ field) ≡ Some (negsuc n)
value_negative field n size = rw size refl

pub value_written : (z : ℤ) → nat_abs z ≤ 2 ^ 62 → value_in (signed_decimal z) ≡ Some z
value_written (pos n) h =
    let text = text_of n (omega arith) in
    value_plain (decimal n) n (no_sign (decimal n) text.filled text.digits) (size_written n h)
value_written (negsuc n) h = value_negative (decimal (suc n)) n (size_written (suc n) h)

pub bound_written : (n : ℕ) → n ≤ 2 ^ 62 → bound_in (decimal n) ≡ Some n
bound_written n h =
    let value : value_in (decimal n) ≡ Some (pos n) = value_written (pos n) h in
    rw value refl
