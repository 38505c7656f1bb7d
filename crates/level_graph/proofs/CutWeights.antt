-- Weights with nothing but zeros behind their first places, and the same cut to these places.
use Rattle.std.proofs.Common.{◌≡◌, ℕ, zero, suc, ◌+◌, ◌≤◌, List, [], ◌∷◌, length, get_or, take, refl, sym, ap, ◌∙◌, subst, ⊎_elim, arith}
use Rattle.std.specs.Ordering.{nat_cmp, ordering_then}
use Rattle.std.specs.Cmp.Lexicographic.{slice_cmp}
use Rattle.std.proofs.lemmas.Bool.{cases_lt}
use Rattle.std.proofs.lemmas.Cmp.{tied_itself, nat_list_cmp_total}
use Rattle.std.proofs.lemmas.List.{get_or-take, get_or_past, length-take, ext_get_or}
use Rattle.weight_vec.specs.Weight.{AtMost, plus}
use Rattle.weight_vec.proofs.Places.{get_or-plus}
use Rattle.label_graph.specs.Cuts.{IsPadded}

pub take-nothing : {X : Type 0} (n : ℕ) (xs : List X) → length xs ≡ 0 → take n xs ≡ []
take-nothing zero xs h = refl
take-nothing (suc n) [] h = refl
take-nothing (suc n) (x ∷ xs) h = absurd (omega arith)

-- the cut of a sum is the sum of the cuts
pub take-plus : (n : ℕ) (xs ys : List ℕ) → take n (plus xs ys) ≡ plus (take n xs) (take n ys)
take-plus zero xs ys = refl
take-plus (suc n) [] ys = refl
take-plus (suc n) (x ∷ xs) [] = refl
take-plus (suc n) (x ∷ xs) (y ∷ ys) = ap (λ (zs : List ℕ). (x + y) ∷ zs) (take-plus n xs ys)

pub plus-padded : (n : ℕ) (xs ys : List ℕ) → IsPadded n xs → IsPadded n ys → IsPadded n (plus xs ys)
plus-padded n xs ys h k d le = omega (arith, get_or-plus xs ys d, h d le, k d le)

cut-past : (n : ℕ) (xs : List ℕ) (d : ℕ) → n ≤ d → get_or (take n xs) d 0 ≡ 0
cut-past n xs d le = get_or_past (take n xs) d 0 (omega (arith, length-take n xs))

-- what fits fits where both are cut
pub fits-cut : (n : ℕ) (xs ys : List ℕ) → AtMost xs ys → AtMost (take n xs) (take n ys)
fits-cut n xs ys h d =
    ⊎_elim
    (λ lt. omega (arith, get_or-take n xs d 0 lt, get_or-take n ys d 0 lt, h d))
    (λ le. omega (arith, cut-past n xs d le))
    (cases_lt d n)

-- and what fits where both are cut fits, if it is padded
pub cut-fits : (n : ℕ) (xs ys : List ℕ) → IsPadded n xs → AtMost (take n xs) (take n ys) → AtMost xs ys
cut-fits n xs ys padded h d =
    ⊎_elim
    (λ lt. omega (arith, get_or-take n xs d 0 lt, get_or-take n ys d 0 lt, h d))
    (λ le. omega (arith, padded d le))
    (cases_lt d n)

-- the cut of a padded list says it all
pub cut-one : (n : ℕ) (xs ys : List ℕ) → length xs ≡ length ys → IsPadded n xs → IsPadded n ys → take n xs ≡ take n ys → xs ≡ ys
cut-one n xs ys sized first second same =
    ext_get_or 0 xs ys sized (λ d in_range. ⊎_elim
    (λ lt. sym (get_or-take n xs d 0 lt) ∙ (ap (λ (zs : List ℕ). get_or zs d 0) same ∙ get_or-take n ys d 0 lt))
    (λ le. first d le ∙ sym (second d le))
    (cases_lt d n))

-- and keeps its order
pub cmp-cut : (n : ℕ) (xs ys : List ℕ) → length xs ≡ length ys → IsPadded n xs → IsPadded n ys → slice_cmp nat_cmp (take n xs) (take n ys) ≡ slice_cmp nat_cmp xs ys
cmp-cut zero xs ys sized first second =
    let same : xs ≡ ys = cut-one zero xs ys sized first second refl in
    subst (λ (zs : List ℕ). slice_cmp nat_cmp (take zero xs) (take zero ys) ≡ slice_cmp nat_cmp xs zs) same (sym (tied_itself nat_list_cmp_total xs))
cmp-cut (suc n) [] [] sized first second = refl
cmp-cut (suc n) [] (y ∷ ys) sized first second = absurd (omega arith)
cmp-cut (suc n) (x ∷ xs) [] sized first second = absurd (omega arith)
cmp-cut (suc n) (x ∷ xs) (y ∷ ys) sized first second =
    let t : length xs ≡ length ys = omega arith in
    ap (ordering_then (nat_cmp x y)) (cmp-cut n xs ys t (λ d le. first (suc d) (omega arith)) (λ d le. second (suc d) (omega arith)))
