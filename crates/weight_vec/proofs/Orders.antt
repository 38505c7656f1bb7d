-- The laws of the lexicographic order of weights.
use Rattle.std.proofs.Common.{◌≡◌, ◌≢◌, ℕ, suc, ◌+◌, ◌<◌, ◌≤◌, List, [], ◌∷◌, ◌++◌, length, replicate, refl, ap, arith}
use Rattle.std.specs.Ordering.{nat_cmp, ordering_then}
use Rattle.std.specs.Cmp.Lexicographic.{slice_cmp}
use Rattle.std.proofs.lemmas.Cmp.{ranked, by_ranked, tied_itself, nat_list_cmp_total}
use Rattle.std.proofs.lemmas.Bool.Decides.{nat_tests}
use Rattle.weight_vec.specs.Weight.{AtMost, Before, plus}

pub at_most-before : (xs ys : List ℕ) → length xs ≡ length ys → AtMost xs ys → xs ≢ ys → Before xs ys
at_most-before [] [] e h n = absurd (n refl)
at_most-before [] (y ∷ ys) e h n = refl
at_most-before (x ∷ xs) [] e h n = absurd (omega arith)
at_most-before (x ∷ xs) (y ∷ ys) e h n =
    let t : length xs ≡ length ys = omega arith in
    let first : x ≤ y = h 0 in
    by_ranked (x < y) (x ≡ y) (y < x) (nat_cmp x y) (ranked x y (nat_cmp x y) refl)
    (λ is lt. rw is refl)
    (λ is same. rw is (at_most-before xs ys t (λ d. h (suc d)) (λ rest. n (λ i. same i ∷ rest i))))
    (λ is gt. absurd (omega arith))

nat_cmp-add : (x y z : ℕ) → nat_cmp (x + z) (y + z) ≡ nat_cmp x y
nat_cmp-add x y z = grind (arith, nat_tests)

pub slice_cmp-plus : (xs ys zs : List ℕ) → length xs ≡ length ys → length zs ≡ length xs → slice_cmp nat_cmp (plus xs zs) (plus ys zs) ≡ slice_cmp nat_cmp xs ys
slice_cmp-plus [] [] zs e f = tied_itself nat_list_cmp_total zs
slice_cmp-plus [] (y ∷ ys) zs e f = absurd (omega arith)
slice_cmp-plus (x ∷ xs) [] zs e f = absurd (omega arith)
slice_cmp-plus (x ∷ xs) (y ∷ ys) [] e f = refl
slice_cmp-plus (x ∷ xs) (y ∷ ys) (z ∷ zs) e f =
    let t : length xs ≡ length ys = omega arith in
    let u : length zs ≡ length xs = omega arith in
    λ i. ordering_then (nat_cmp-add x y z i) (slice_cmp-plus xs ys zs t u i)

pub slice_cmp-padded : (xs ys : List ℕ) (n : ℕ) → length xs ≡ length ys → slice_cmp nat_cmp (xs ++ replicate n 0) (ys ++ replicate n 0) ≡ slice_cmp nat_cmp xs ys
slice_cmp-padded [] [] n e = tied_itself nat_list_cmp_total (replicate n 0)
slice_cmp-padded [] (y ∷ ys) n e = absurd (omega arith)
slice_cmp-padded (x ∷ xs) [] n e = absurd (omega arith)
slice_cmp-padded (x ∷ xs) (y ∷ ys) n e =
    let t : length xs ≡ length ys = omega arith in
    ap (ordering_then (nat_cmp x y)) (slice_cmp-padded xs ys n t)
