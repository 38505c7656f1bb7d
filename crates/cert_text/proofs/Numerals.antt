-- A field that is read as a number is the number's spelling, and what is written for a number is read as this number.
use Rattle.std.proofs.Common.{suc, zero, ◌≡◌, ℕ, ◌<◌, ◌^◌, Bool, true, false, cond, List, [], ◌∷◌, length, get_or, take, drop, Some, None, ℤ, pos, negsuc, refl, sym, ap, subst, ◌∙◌, arith, rules}
use Rattle.std.specs.Prelude.{◌&&◌, ◌==◌, not, nat_lt, nat_le, codes, decimal, bytes_eq, neg_ℤ, option_map, unsigned_abs}
use Rattle.std.specs.List.{list_all}
use Rattle.std.specs.Char.{is_ascii_digit}
use Rattle.std.proofs.lemmas.Bool.Decides.{nat_tests}
use Rattle.std.proofs.lemmas.Option.{cond_some, same_Some}
use Rattle.std.proofs.lemmas.Str.Parse.{IsNumeralModel, numerals_by_weight}
use Rattle.std.proofs.lemmas.Fmt.{decimal-digits_value, decimal_digit, first_decimal}
use Rattle.arc_num.proofs.ReadBack.{decimal_reads_back}
use Rattle.arc_num.specs.Decimals.{are_digits, value_of, number_of, signed_decimal}
use Rattle.arc_num.specs.declared.TheConstants.{MAX_PRICE}
use Rattle.cert_text.specs.Lines.{IsBetween}
use Rattle.cert_text.specs.inner.Fields.{numeral, ranged, signed_in}

pub both : (a b : Bool) → (a && b) ≡ true → (a ≡ true) × (b ≡ true)
both true b h = (refl, h)
both false b h = absurd (cc)

own : IsNumeralModel (λ (ds : List ℕ). list_all is_ascii_digit ds ≡ true) value_of
own = numerals_by_weight (λ (ds : List ℕ). list_all is_ascii_digit ds ≡ true) (search rules) value_of (search rules)

-- ---- without a sign

filled : (field : List ℕ) → not (length field == 0) ≡ true → 0 < length field
filled field h = grind (arith, nat_tests)

no_zero_leads : (field : List ℕ) → 0 < length field → (nat_lt 1 (length field) && (get_or field 0 0 == 48)) ≡ false → get_or field 0 0 ≡ 48 → length field ≡ 1
no_zero_leads field some e h = grind (arith, nat_tests)

below : (field : List ℕ) (n : ℕ) → number_of field ≡ Some n → (are_digits field ≡ true) × (value_of field < 2 ^ 64) × (value_of field ≡ n)
below field n e =
    let found = cond_some (are_digits field && nat_lt (value_of field) (2 ^ 64)) (value_of field) n e in
    let parts = both (are_digits field) (nat_lt (value_of field) (2 ^ 64)) found.0 in
    (parts.0, grind (arith, nat_tests, parts.1), found.1)

pub numeral_takes : (field : List ℕ) (n : ℕ) → numeral field ≡ Some n → field ≡ decimal n
numeral_takes field n e = by (nat_lt 1 (length field) && (get_or field 0 0 == 48)) refl e
  where
    by : (t : Bool) → (nat_lt 1 (length field) && (get_or field 0 0 == 48)) ≡ t → cond t None (number_of field) ≡ Some n → field ≡ decimal n
    by true leads e = absurd (cc)
    by false leads e =
        let value = below field n e in
        let parts = both (not (length field == 0)) (list_all is_ascii_digit field) value.0 in
        let some = filled field parts.0 in
        sym (decimal-digits_value own field parts.1 some (no_zero_leads field some leads) value.1) ∙ ap decimal value.2

single_zero : numeral (decimal 0) ≡ Some 0
single_zero = rw (decimal_digit 0 (omega arith)) refl

leads_not : (field : List ℕ) → 48 < get_or field 0 0 → (nat_lt 1 (length field) && (get_or field 0 0 == 48)) ≡ false
leads_not field h = grind (arith, nat_tests)

digits_count : (field : List ℕ) (n : ℕ) → are_digits field ≡ true → value_of field ≡ n → n < 2 ^ 64 → number_of field ≡ Some n
digits_count field n digits value small = grind (arith, nat_tests)

pub numeral_again : (n : ℕ) → n < 2 ^ 64 → numeral (decimal n) ≡ Some n
numeral_again zero small = single_zero
numeral_again (suc n) small =
    let read = decimal_reads_back (suc n) small in
    let leads = leads_not (decimal (suc n)) (first_decimal (suc n) (omega arith) small) in
    rw leads (digits_count (decimal (suc n)) (suc n) read.digits read.value small)

-- ---- between two numbers

in_range : (least most n : ℕ) → (nat_le least n && nat_le n most) ≡ true → IsBetween least most n
in_range least most n h = let parts = both (nat_le least n) (nat_le n most) h in (grind (arith, nat_tests, parts.0), grind (arith, nat_tests, parts.1))

range_test : (least most n : ℕ) → IsBetween least most n → (nat_le least n && nat_le n most) ≡ true
range_test least most n h = let l = h.0 in let m = h.1 in grind (arith, nat_tests)

pub ranged_takes : (least most : ℕ) (field : List ℕ) (n : ℕ) → ranged least most (numeral field) ≡ Some n → (field ≡ decimal n) × IsBetween least most n
ranged_takes least most field n e = by (numeral field) refl e
  where
    by : (o : _) → numeral field ≡ o → ranged least most o ≡ Some n → (field ≡ decimal n) × IsBetween least most n
    by None is e = absurd (cc)
    by (Some m) is e =
        let found = cond_some (nat_le least m && nat_le m most) m n e in
        let same : numeral field ≡ Some n = is ∙ ap (λ x. Some x) found.1 in
        (numeral_takes field n same, subst (IsBetween least most) found.1 (in_range least most m found.0))

pub ranged_again : (least most n : ℕ) → IsBetween least most n → most < 2 ^ 64 → ranged least most (numeral (decimal n)) ≡ Some n
ranged_again least most n h wide = rw (numeral_again n (omega (arith, h.0, h.1)), range_test least most n h) refl

-- ---- with a sign

-- a price that is not 0, within 2^62
abbrev pub IsSigned : ℤ → Type 0
IsSigned z = IsBetween 1 MAX_PRICE (unsigned_abs z)

minus_parts : (field : List ℕ) → bytes_eq (take 1 field) (codes "-") ≡ true → field ≡ 45 ∷ drop 1 field
minus_parts [] e = absurd (cc)
minus_parts (c ∷ cs) e = let same : c ≡ 45 = grind (arith, nat_tests) in ap (λ x. x ∷ cs) same

negated : (n : ℕ) → IsBetween 1 MAX_PRICE n → (signed_decimal (neg_ℤ (pos n)) ≡ 45 ∷ decimal n) × IsSigned (neg_ℤ (pos n))
negated zero h = absurd (omega (arith, h.0))
negated (suc n) h = (refl, h)

pub signed_takes : (field : List ℕ) (z : ℤ) → signed_in field ≡ Some z → (field ≡ signed_decimal z) × IsSigned z
signed_takes field z e = by (bytes_eq (take 1 field) (codes "-")) refl e
  where
    plain : (o : _) → ranged 1 MAX_PRICE (numeral field) ≡ o → option_map (λ n. pos n) o ≡ Some z → (field ≡ signed_decimal z) × IsSigned z
    plain None is e = absurd (cc)
    plain (Some n) is e =
        let found = ranged_takes 1 MAX_PRICE field n is in
        subst (λ y. (field ≡ signed_decimal y) × IsSigned y) (same_Some (pos n) z e) (found.0, found.1)

    minus : (o : _) → field ≡ 45 ∷ drop 1 field → ranged 1 MAX_PRICE (numeral (drop 1 field)) ≡ o → option_map (λ n. neg_ℤ (pos n)) o ≡ Some z → (field ≡ signed_decimal z) × IsSigned z
    minus None parts is e = absurd (cc)
    minus (Some n) parts is e =
        let found = ranged_takes 1 MAX_PRICE (drop 1 field) n is in
        let sign = negated n found.1 in
        let text : field ≡ signed_decimal (neg_ℤ (pos n)) = parts ∙ ap (λ x. 45 ∷ x) found.0 ∙ sym sign.0 in
        subst (λ y. (field ≡ signed_decimal y) × IsSigned y) (same_Some (neg_ℤ (pos n)) z e) (text, sign.1)

    by : (t : Bool) → bytes_eq (take 1 field) (codes "-") ≡ t → cond t (option_map (λ n. neg_ℤ (pos n)) (ranged 1 MAX_PRICE (numeral (drop 1 field)))) (option_map (λ n. pos n) (ranged 1 MAX_PRICE (numeral field))) ≡ Some z → (field ≡ signed_decimal z) × IsSigned z
    by true sign e = minus (ranged 1 MAX_PRICE (numeral (drop 1 field))) (minus_parts field sign) refl e
    by false sign e = plain (ranged 1 MAX_PRICE (numeral field)) refl e

no_sign : (field : List ℕ) → 0 < length field → list_all is_ascii_digit field ≡ true → bytes_eq (take 1 field) (codes "-") ≡ false
no_sign [] h d = absurd (omega arith)
no_sign (c ∷ cs) h d = grind arith

pub signed_again : (z : ℤ) → IsSigned z → signed_in (signed_decimal z) ≡ Some z
signed_again (pos n) h =
    let small : n < 2 ^ 64 = omega (arith, h.0, h.1) in
    let parts = both (not (length (decimal n) == 0)) (list_all is_ascii_digit (decimal n)) (decimal_reads_back n small).digits in
    let sign : bytes_eq (take 1 (decimal n)) (codes "-") ≡ false = no_sign (decimal n) (filled (decimal n) parts.0) parts.1 in
    let read : ranged 1 MAX_PRICE (numeral (decimal n)) ≡ Some n = ranged_again 1 MAX_PRICE n h (omega arith) in
    rw (sign, read) refl
signed_again (negsuc n) h =
    let read : ranged 1 MAX_PRICE (numeral (decimal (suc n))) ≡ Some (suc n) = ranged_again 1 MAX_PRICE (suc n) h (omega arith) in
    rw read refl
