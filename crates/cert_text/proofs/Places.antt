-- Fields in their places: what is found is what stands there, and what stands there is found.
use Rattle.std.proofs.Common.{◌≡◌, ℕ, ◌<◌, ◌^◌, true, List, [], ◌∷◌, Some, None, ℤ, refl, ap, ◌∙◌, rules}
use Rattle.std.specs.Prelude.{decimal, bytes_eq, option_map}
use Rattle.std.proofs.lemmas.Option.{cond_some, some_pair_parts}
use Rattle.std.proofs.lemmas.Slice.Eq.{bytes_eq-Decides}
use Rattle.arc_num.specs.Decimals.{signed_decimal}
use Rattle.cert_text.specs.Lines.{IsBetween}
use Rattle.cert_text.specs.inner.Fields.{◌>>=◌, numeral, ranged, signed_in, first_by, number_at, signed_at, word_at}
use Rattle.cert_text.proofs.Numerals.{ranged_takes, ranged_again, signed_takes, signed_again, IsSigned}

-- a step that found something
pub bind_some : {A B : Type 0} (o : _) (f : A → _) (y : B) → (o >>= f) ≡ Some y → (x : A) × (o ≡ Some x) × (f x ≡ Some y)
bind_some (Some x) f y e = (x, refl, e)
bind_some None f y e = absurd (cc)

first_takes : {A : Type 0} (read : List ℕ → _) (fields : List (List ℕ)) (x : A) (left : List (List ℕ)) → first_by read fields ≡ Some (x, left) → (field : List ℕ) × (fields ≡ field ∷ left) × (read field ≡ Some x)
first_takes read [] x left e = absurd (cc)
first_takes {A = A} read (field ∷ fields) x left e = by (read field) refl e
  where
    by : (o : _) → read field ≡ o → option_map {U = A × List (List ℕ)} (λ y. (y, fields)) o ≡ Some (x, left) → (f : List ℕ) × (field ∷ fields ≡ f ∷ left) × (read f ≡ Some x)
    by None is e = absurd (cc)
    by (Some y) is e =
        let parts = some_pair_parts y x fields left e in
        (field, ap (λ fs. field ∷ fs) parts.1, is ∙ ap (λ z. Some z) parts.0)

first_again : {A : Type 0} (read : List ℕ → _) (field : List ℕ) (x : A) (left : List (List ℕ)) → read field ≡ Some x → first_by read (field ∷ left) ≡ Some (x, left)
first_again read field x left e = rw e refl

pub number_takes : (least most : ℕ) (fields : List (List ℕ)) (n : ℕ) (left : List (List ℕ)) → number_at least most fields ≡ Some (n, left) → (fields ≡ decimal n ∷ left) × IsBetween least most n
unfolding number_at
number_takes least most fields n left e =
    let found = first_takes (λ field. ranged least most (numeral field)) fields n left e in
    let value = ranged_takes least most found.0 n found.2 in
    (found.1 ∙ ap (λ f. f ∷ left) value.0, value.1)

pub number_again : (least most n : ℕ) (left : List (List ℕ)) → IsBetween least most n → most < 2 ^ 64 → number_at least most (decimal n ∷ left) ≡ Some (n, left)
unfolding number_at
number_again least most n left h wide = first_again (λ field. ranged least most (numeral field)) (decimal n) n left (ranged_again least most n h wide)

pub signed_place_takes : (fields : List (List ℕ)) (z : ℤ) (left : List (List ℕ)) → signed_at fields ≡ Some (z, left) → (fields ≡ signed_decimal z ∷ left) × IsSigned z
unfolding signed_at
signed_place_takes fields z left e =
    let found = first_takes signed_in fields z left e in
    let value = signed_takes found.0 z found.2 in
    (found.1 ∙ ap (λ f. f ∷ left) value.0, value.1)

pub signed_place_again : (z : ℤ) (left : List (List ℕ)) → IsSigned z → signed_at (signed_decimal z ∷ left) ≡ Some (z, left)
unfolding signed_at
signed_place_again z left h = first_again signed_in (signed_decimal z) z left (signed_again z h)

-- equal texts pass the test of words, and no others
pub same_word : (field word : List ℕ) → bytes_eq field word ≡ true → field ≡ word
same_word field word e = search (rules, bytes_eq-Decides)

pub word_again : (word : List ℕ) (left : List (List ℕ)) → bytes_eq word word ≡ true → word_at word (word ∷ left) ≡ Some left
unfolding word_at
word_again word left e = rw e refl

pub word_takes : (word : List ℕ) (fields left : List (List ℕ)) → word_at word fields ≡ Some left → fields ≡ word ∷ left
unfolding word_at
word_takes word [] left e = absurd (cc)
word_takes word (field ∷ fields) left e =
    let found = cond_some (bytes_eq field word) fields left e in
    let same = same_word field word found.0 in
    ap (λ f. f ∷ fields) same ∙ ap (λ fs. word ∷ fs) found.1
