-- Digits without leading zeros, and the column that a letter and they name.
use Rattle.std.proofs.Common.{suc, zero, ◌≡◌, ◌≢◌, ℕ, ◌+◌, ◌-◌, ◌^◌, ◌<◌, ◌≤◌, Bool, true, false, List, [], ◌∷◌, length, get_or, take, drop, Some, None, refl, sym, ap, ◌∙◌, arith, rules}
use Rattle.std.specs.Prelude.{◌&&◌, ◌==◌, nat_eq, nat_lt, position, slice_get, bytes_eq, decimal, if◌then◌else◌}
use Rattle.std.specs.List.{list_all}
use Rattle.std.specs.Char.{is_ascii_digit}
use Rattle.std.specs.Cmp.Lexicographic.{pointwise}
use Rattle.std.proofs.lemmas.Bool.Decides.{nat_tests, Decides-eqb}
use Rattle.std.proofs.lemmas.Fmt.{first_decimal, decimal-digits_value, decimal_injective}
use Rattle.std.proofs.lemmas.Option.{slice_get_within}
use Rattle.std.proofs.lemmas.Slice.Eq.{starts_is}
use Rattle.std.proofs.lemmas.Str.Parse.{IsNumeralModel, numerals_by_weight}
use Rattle.arc_num.specs.Decimals.{are_digits, value_of, number_of}
use Rattle.arc_num.proofs.ReadBack.{decimal_reads_back}
use Rattle.flow_graph.specs.declared.parts.ArcKind.{ArcKind}
use Rattle.flow_graph.specs.declared.parts.ArcKind.TheVariants.{Bin, Loss, Piece}
use Rattle.flow_graph.specs.Arcs.{TypeValue, numbered, arc_at}
use Rattle.flow_model.specs.Models.{arc_name}
use Rattle.solution_text.specs.Fields.{column_names}
use Rattle.solution_text.specs.inner.Letters.{letter_of}
use Rattle.solution_text.proofs.ColumnNames.{named_place, unnamed_place}

-- no number from 1 on is spelled with a zero in front
pub not_zero_first : (digits : List ℕ) (a : ℕ) → get_or digits 0 0 ≡ 48 → 1 ≤ a → a < 2 ^ 32 → digits ≢ decimal a
not_zero_first digits a zero_first positive small same =
    let more : 48 < get_or (decimal a) 0 0 = first_decimal a positive (omega (arith, small)) in
    let first : get_or (decimal a) 0 0 ≡ 48 = ap (λ (z : List ℕ). get_or z 0 0) (sym same) ∙ zero_first in
    omega (arith, more, first)

own : IsNumeralModel (λ (ds : List ℕ). list_all is_ascii_digit ds ≡ true) value_of
own = numerals_by_weight (λ (ds : List ℕ). list_all is_ascii_digit ds ≡ true) (search rules) value_of (search rules)

-- other digits are what is written for their value
pub spelled : (digits : List ℕ) (v : ℕ) → number_of digits ≡ Some v → (get_or digits 0 0 ≡ 48 → ⊥) → digits ≡ decimal v
spelled digits v read first = by (are_digits digits) (nat_lt (value_of digits) (2 ^ 64)) refl refl read
  where
    by : (b d : Bool) → are_digits digits ≡ b → nat_lt (value_of digits) (2 ^ 64) ≡ d → (if b && d then Some (value_of digits) else None) ≡ Some v → digits ≡ decimal v
    by true true all fits h =
        let value : value_of digits ≡ v = cc in
        let small : value_of digits < 2 ^ 64 = grind (arith, nat_tests) in
        let parts : (0 < length digits) × (list_all is_ascii_digit digits ≡ true) = grind (arith, nat_tests) in
        sym (decimal-digits_value own digits parts.1 parts.0 (λ zero_first. absurd (first zero_first)) small) ∙ ap decimal value
    by true false all fits h = absurd (cc)
    by false d all fits h = absurd (cc)

pub decimal_read : (a : ℕ) → a < 2 ^ 64 → number_of (decimal a) ≡ Some a
decimal_read a small =
    let back = decimal_reads_back a small in
    let fits : nat_lt (value_of (decimal a)) (2 ^ 64) ≡ true = rw back.value (grind (arith, nat_tests)) in
    rw (back.digits, fits) (ap (λ (n : ℕ). Some n) back.value)

name_is : (a : ℕ) (kind : ArcKind) → arc_name a kind ≡ letter_of kind ∷ decimal a
name_is a (Bin t) = refl
name_is a (Loss t tail head) = refl
name_is a (Piece t tail head item form) = refl

-- the arc at a place, by its number
abbrev AtPlace : List TypeValue → ℕ → ArcKind → Type 0
AtPlace g k kind = slice_get (numbered g) k ≡ Some kind

at_number : (g : List TypeValue) (k : ℕ) (kind : ArcKind) → AtPlace g k kind → arc_at g (1 + k) ≡ Some kind
at_number g k kind h =
    let some : (1 + k == 0) ≡ false = grind (arith, nat_tests) in
    let back : (1 + k) - 1 ≡ k = omega arith in
    rw (some, back) h

at_place : (g : List TypeValue) (a : ℕ) (kind : ArcKind) → arc_at g a ≡ Some kind → (1 ≤ a) × AtPlace g (a - 1) kind
at_place g zero kind h = absurd (cc)
at_place g (suc k) kind h =
    let some : (suc k == 0) ≡ false = grind (arith, nat_tests) in
    (omega arith, rw some at h)

-- a letter and digits name no column where what they would name is no arc, or one of the other letter
pub unnamed : (g : List TypeValue) (letter : ℕ) (digits : List ℕ) → length (numbered g) < 2 ^ 31 → ((k : ℕ) (kind : ArcKind) → AtPlace g k kind → k < 2 ^ 31 → letter ≡ letter_of kind → digits ≡ decimal (1 + k) → ⊥)
    → position (bytes_eq (letter ∷ digits)) (column_names g) ≡ None
unnamed g letter digits few never = unnamed_place g (letter ∷ digits) (λ k kind at same.
    let within : k < length (numbered g) = slice_get_within (numbered g) k kind at in
    let parts = same ∙ name_is (1 + k) kind in
    never k kind at (omega (arith, within, few)) (ap (λ (z : List ℕ). get_or z 0 0) parts) (ap (drop 1) parts))

pub unnamed_nothing : (g : List TypeValue) → position (bytes_eq []) (column_names g) ≡ None
unnamed_nothing g = unnamed_place g [] (λ k kind at same. let e = same ∙ name_is (1 + k) kind in cc)

pub unnamed_digits : (g : List TypeValue) (letter : ℕ) (digits : List ℕ) → length (numbered g) < 2 ^ 31 → ((a : ℕ) → 1 ≤ a → a < 2 ^ 32 → digits ≢ decimal a) → position (bytes_eq (letter ∷ digits)) (column_names g) ≡ None
unnamed_digits g letter digits few none = unnamed g letter digits few (λ k kind at small first rest. none (1 + k) (omega arith) (omega (arith, small)) rest)

pub unnamed_arc : (g : List TypeValue) (letter a : ℕ) (digits : List ℕ) → length (numbered g) < 2 ^ 31 → a < 2 ^ 32 → digits ≡ decimal a → arc_at g a ≡ None → position (bytes_eq (letter ∷ digits)) (column_names g) ≡ None
unnamed_arc g letter a digits few small spells none = unnamed g letter digits few (λ k kind at within first rest.
    let number : a ≡ 1 + k = decimal_injective a (1 + k) (omega (arith, small)) (omega (arith, within)) (sym spells ∙ rest) in
    let here : arc_at g a ≡ Some kind = ap (arc_at g) number ∙ at_number g k kind at in
    cc)

pub unnamed_letter : (g : List TypeValue) (letter a : ℕ) (digits : List ℕ) (kind : ArcKind) → length (numbered g) < 2 ^ 31 → a < 2 ^ 32 → digits ≡ decimal a → arc_at g a ≡ Some kind → (letter ≡ letter_of kind → ⊥)
    → position (bytes_eq (letter ∷ digits)) (column_names g) ≡ None
unnamed_letter g letter a digits kind few small spells here other = unnamed g letter digits few (λ k found at within first rest.
    let number : a ≡ 1 + k = decimal_injective a (1 + k) (omega (arith, small)) (omega (arith, within)) (sym spells ∙ rest) in
    let same : Some kind ≡ Some found = sym here ∙ (ap (arc_at g) number ∙ at_number g k found at) in
    let kinds : found ≡ kind = cc in
    other (first ∙ ap letter_of kinds))

pub named : (g : List TypeValue) (letter a : ℕ) (digits : List ℕ) (kind : ArcKind) → length (numbered g) < 2 ^ 31 → digits ≡ decimal a → arc_at g a ≡ Some kind → letter ≡ letter_of kind
    → position (bytes_eq (letter ∷ digits)) (column_names g) ≡ Some (a - 1)
named g letter a digits kind few spells here first =
    let at = at_place g a kind here in
    let positive = at.0 in
    let within : a - 1 < length (numbered g) = slice_get_within (numbered g) (a - 1) kind at.1 in
    let number : 1 + (a - 1) ≡ a = omega (arith, positive) in
    let name : letter ∷ digits ≡ arc_name (1 + (a - 1)) kind =
    ap (λ (z : ℕ). z ∷ digits) first ∙ (ap (λ (z : List ℕ). letter_of kind ∷ z) (spells ∙ ap decimal (sym number)) ∙ sym (name_is (1 + (a - 1)) kind)) in
    ap (λ (z : List ℕ). position (bytes_eq z) (column_names g)) name ∙ named_place g (a - 1) kind few within at.1

-- the first digit, by a test of the text's front
pub zero_first : (digits : List ℕ) → true ≡ pointwise nat_eq (48 ∷ []) (take 1 digits) → get_or digits 0 0 ≡ 48
zero_first digits e = ap (λ (z : List ℕ). get_or z 0 0) ((starts_is Decides-eqb digits (48 ∷ []) true e).0 refl)

pub not_first : (digits : List ℕ) → false ≡ pointwise nat_eq (48 ∷ []) (take 1 digits) → get_or digits 0 0 ≡ 48 → ⊥
not_first [] e first = omega (arith, first)
not_first (b ∷ bs) e first =
    let yes = (starts_is Decides-eqb (b ∷ bs) (48 ∷ []) false e).1 bs (ap (λ (z : ℕ). z ∷ bs) first) in
    cc
