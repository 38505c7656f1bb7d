-- Contents with as many of each form: what is counted over the forms is the same of both.
use Rattle.std.proofs.Common.{zero, suc, ◌≡◌, ℕ, ◌+◌, ◌*◌, ◌≤◌, ◌∙◌, [], ◌∷◌, Bool, true, false, cond, not, ◌==◌, ◌&&◌, length, filter, sum_by, slice_index, ◌-◌, refl, sym, ap, arith}
use Rattle.std.proofs.lemmas.Bool.{cond_both, cond-true, cond-false, and_from, and_parts, eqb-true, eq-eqb, not_from_true, not-true, not-false}
use Rattle.std.proofs.lemmas.List.Sums.{sum_by-cons}
use Rattle.std.proofs.Math.Nat.{add-mul}
use Rattle.packing_laws.specs.declared.packings.Count.{Count}
use Rattle.packing_laws.specs.Instances.{InstanceValue, form_at}
use Rattle.packing_laws.specs.Packings.{Content, count_of_item, weight_in}
use Rattle.packing_laws.specs.Printed.{SameContent, units_in}

-- the counts, each times a weight of its form, added up
abbrev weigh : (ℕ → ℕ → ℕ) → Content → ℕ
weigh w c = sum_by (λ n. n.count * w n.item n.form) c

-- the form has the weight 1, and the others 0
abbrev only : ℕ → ℕ → ℕ → ℕ → ℕ
only i f j g = cond ((j == i) && (g == f)) 1 0

-- the content without one form
abbrev without : ℕ → ℕ → Content → Content
without i f c = filter (λ n. not ((n.item == i) && (n.form == f))) c

cond-times : (b : Bool) (n : ℕ) → cond b n 0 ≡ n * cond b 1 0
cond-times true n = omega arith
cond-times false n = omega arith

-- one form apart
weigh-apart : (w : ℕ → ℕ → ℕ) (i f : ℕ) (c : Content) → weigh w c ≡ weigh (only i f) c * w i f + weigh w (without i f c)
weigh-apart w i f [] = omega arith
weigh-apart w i f (n ∷ c) =
    let test : Bool = (n.item == i) && (n.form == f) in
    let rest : weigh w c ≡ weigh (only i f) c * w i f + weigh w (without i f c) = weigh-apart w i f c in
    let whole : weigh w (n ∷ c) ≡ n.count * w n.item n.form + weigh w c = sum_by-cons (λ (m : Count). m.count * w m.item m.form) n c in
    let own : weigh (only i f) (n ∷ c) ≡ n.count * only i f n.item n.form + weigh (only i f) c = sum_by-cons (λ (m : Count). m.count * only i f m.item m.form) n c in
    let others : weigh w (n ∷ without i f c) ≡ n.count * w n.item n.form + weigh w (without i f c) = sum_by-cons (λ (m : Count). m.count * w m.item m.form) n (without i f c) in
    cond_both (not test) (n ∷ without i f c) (without i f c) (λ l. weigh w (n ∷ c) ≡ weigh (only i f) (n ∷ c) * w i f + weigh w l)
    (λ apart.
    let zero_only : only i f n.item n.form ≡ 0 = cond-false test 1 0 (not-true test apart) in
    let part : n.count * only i f n.item n.form ≡ n.count * 0 = ap (λ m. n.count * m) zero_only in
    let same : weigh (only i f) (n ∷ c) ≡ weigh (only i f) c = omega arith in
    let scaled : weigh (only i f) (n ∷ c) * w i f ≡ weigh (only i f) c * w i f = ap (λ m. m * w i f) same in
    omega arith)
    (λ together.
    let here : test ≡ true = not-false test together in
    let keys = and_parts (n.item == i) (n.form == f) here in
    let item : n.item ≡ i = eqb-true n.item i keys.0 in
    let form : n.form ≡ f = eqb-true n.form f keys.1 in
    let weight : n.count * w n.item n.form ≡ n.count * w i f = λ k. n.count * w (item k) (form k) in
    let one : only i f n.item n.form ≡ 1 = cond-true test 1 0 here in
    let part : n.count * only i f n.item n.form ≡ n.count * 1 = ap (λ m. n.count * m) one in
    let more : weigh (only i f) (n ∷ c) ≡ n.count + weigh (only i f) c = omega arith in
    let scaled : weigh (only i f) (n ∷ c) * w i f ≡ (n.count + weigh (only i f) c) * w i f = ap (λ m. m * w i f) more in
    let spread : (n.count + weigh (only i f) c) * w i f ≡ n.count * w i f + weigh (only i f) c * w i f = add-mul n.count (weigh (only i f) c) (w i f) in
    omega arith)

without-short : (i f : ℕ) (c : Content) → length (without i f c) ≤ length c
without-short i f [] = omega arith
without-short i f (n ∷ c) =
    let rest : length (without i f c) ≤ length c = without-short i f c in
    cond_both (not ((n.item == i) && (n.form == f))) (n ∷ without i f c) (without i f c) (λ l. length l ≤ length (n ∷ c)) (λ _. omega arith) (λ _. omega arith)

without-first : (n : Count) (c : Content) → length (without n.item n.form (n ∷ c)) ≤ length c
without-first n c =
    let test : Bool = (n.item == n.item) && (n.form == n.form) in
    let here : test ≡ true = and_from (n.item == n.item) (n.form == n.form) (eq-eqb n.item n.item refl) (eq-eqb n.form n.form refl) in
    let gone : without n.item n.form (n ∷ c) ≡ without n.item n.form c = cond-false (not test) (n ∷ without n.item n.form c) (without n.item n.form c) (not_from_true test here) in
    let same : length (without n.item n.form (n ∷ c)) ≡ length (without n.item n.form c) = ap length gone in
    let short : length (without n.item n.form c) ≤ length c = without-short n.item n.form c in
    omega arith

-- as many of each form
abbrev Equals : Content → Content → Type 0
Equals c d = (i f : ℕ) → weigh (only i f) c ≡ weigh (only i f) d

-- without one form too
Equals-without : (i f : ℕ) (c d : Content) → Equals c d → Equals (without i f c) (without i f d)
Equals-without i f c d same j g =
    let first : weigh (only j g) c ≡ weigh (only i f) c * only j g i f + weigh (only j g) (without i f c) = weigh-apart (only j g) i f c in
    let second : weigh (only j g) d ≡ weigh (only i f) d * only j g i f + weigh (only j g) (without i f d) = weigh-apart (only j g) i f d in
    let whole : weigh (only j g) c ≡ weigh (only j g) d = same j g in
    let part : weigh (only i f) c * only j g i f ≡ weigh (only i f) d * only j g i f = ap (λ m. m * only j g i f) (same i f) in
    omega arith

module _ (w : ℕ → ℕ → ℕ) where
  -- one form taken from both
  apart-both : (i f : ℕ) (c d : Content) → Equals c d → weigh w (without i f c) ≡ weigh w (without i f d) → weigh w c ≡ weigh w d
  apart-both i f c d same rest =
      let first : weigh w c ≡ weigh (only i f) c * w i f + weigh w (without i f c) = weigh-apart w i f c in
      let second : weigh w d ≡ weigh (only i f) d * w i f + weigh w (without i f d) = weigh-apart w i f d in
      let part : weigh (only i f) c * w i f ≡ weigh (only i f) d * w i f = ap (λ m. m * w i f) (same i f) in
      omega arith

  weigh-within : (n : ℕ) (c d : Content) → length c + length d ≤ n → Equals c d → weigh w c ≡ weigh w d
  weigh-within n [] [] short same = refl
  weigh-within zero (m ∷ c) d short same = absurd (omega arith)
  weigh-within zero [] (m ∷ d) short same = absurd (omega arith)
  weigh-within (suc n) (m ∷ c) d short same =
      let one : length (without m.item m.form (m ∷ c)) ≤ length c = without-first m c in
      let two : length (without m.item m.form d) ≤ length d = without-short m.item m.form d in
      apart-both m.item m.form (m ∷ c) d same (weigh-within n (without m.item m.form (m ∷ c)) (without m.item m.form d) (omega arith) (Equals-without m.item m.form (m ∷ c) d same))
  weigh-within (suc n) [] (m ∷ d) short same =
      let two : length (without m.item m.form (m ∷ d)) ≤ length d = without-first m d in
      apart-both m.item m.form [] (m ∷ d) same (weigh-within n [] (without m.item m.form (m ∷ d)) (omega arith) (Equals-without m.item m.form [] (m ∷ d) same))

-- the counts of a form, as a weight
Equals-from : (c d : Content) → SameContent c d → Equals c d
Equals-from c d same i f =
    let times : (n : Count) → cond ((n.item == i) && (n.form == f)) n.count 0 ≡ n.count * only i f n.item n.form = λ n. cond-times ((n.item == i) && (n.form == f)) n.count in
    sym (λ k. sum_by (λ n. times n k) c) ∙ same i f ∙ (λ k. sum_by (λ n. times n k) d)

same-weigh : (w : ℕ → ℕ → ℕ) (c d : Content) → SameContent c d → weigh w c ≡ weigh w d
same-weigh w c d same = weigh-within w (length c + length d) c d (omega arith) (Equals-from c d same)

pub same-weight : (I : InstanceValue) (k : ℕ) (c d : Content) → SameContent c d → weight_in I k c ≡ weight_in I k d
same-weight I k c d same = same-weigh (λ i f. slice_index (form_at I i f) (k - 1)) c d same

pub same-item : (i : ℕ) (c d : Content) → SameContent c d → count_of_item i c ≡ count_of_item i d
same-item i c d same =
    let times : (n : Count) → cond (n.item == i) n.count 0 ≡ n.count * cond (n.item == i) 1 0 = λ n. cond-times (n.item == i) n.count in
    (λ k. sum_by (λ n. times n k) c) ∙ same-weigh (λ j g. cond (j == i) 1 0) c d same ∙ sym (λ k. sum_by (λ n. times n k) d)

pub same-units : (c d : Content) → SameContent c d → units_in c ≡ units_in d
same-units c d same =
    let times : (n : Count) → n.count ≡ n.count * 1 = λ n. omega arith in
    (λ k. sum_by (λ n. times n k) c) ∙ same-weigh (λ j g. 1) c d same ∙ sym (λ k. sum_by (λ n. times n k) d)
