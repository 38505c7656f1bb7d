-- What a sort and the removal of equal neighbours leave of a list of weights.
use Rattle.std.proofs.Common.{◌≡◌, ℕ, ◌↔◌, true, List, [], ◌∷◌, nat_eq, refl, arith}
use Rattle.std.specs.Prelude.{Contains, AllPairs}
use Rattle.std.specs.List.{dedup}
use Rattle.std.specs.List.Sorted.{IsSorted, IsPermutation}
use Rattle.std.specs.Ordering.{nat_cmp, eq_by_cmp}
use Rattle.std.specs.Cmp.Lexicographic.{slice_cmp, pointwise, lists_ties}
use Rattle.std.proofs.lemmas.Bool.{eqb-true, and_parts, false≢true}
use Rattle.std.proofs.lemmas.Bool.Decides.{nat_tests}
use Rattle.std.proofs.lemmas.Cmp.{nat_list_cmp_total, nat_list_eq_equiv}
use Rattle.std.proofs.lemmas.List.Kept.{IsStrictlySortedBy-dedup, Contains-dedup, Contains-from_dedup}
use Rattle.std.proofs.lemmas.List.Sorted.{Contains-permutation, IsPermutation-sym}
use Rattle.std.proofs.lemmas.Map.Keys.{Less-from_sorted}
use Rattle.weight_vec.specs.Weight.{Before}

same_numbers : (xs ys : List ℕ) → pointwise nat_eq xs ys ≡ true → xs ≡ ys
same_numbers [] [] h = refl
same_numbers [] (y ∷ ys) h = absurd (false≢true h)
same_numbers (x ∷ xs) [] h = absurd (false≢true h)
same_numbers (x ∷ xs) (y ∷ ys) h =
    let parts = and_parts (nat_eq x y) (pointwise nat_eq xs ys) h in
    let first : x ≡ y = eqb-true x y parts.0 in
    let rest : xs ≡ ys = same_numbers xs ys parts.1 in
    cc

number_ties : (x y : ℕ) → nat_eq x y ≡ eq_by_cmp nat_cmp x y
number_ties x y = grind (arith, nat_tests)

pub different_weights : (all sorted kept : List (List ℕ)) → IsPermutation all sorted → IsSorted (slice_cmp nat_cmp) sorted → kept ≡ dedup (pointwise nat_eq) sorted → AllPairs Before kept × ((x : List ℕ) → Contains kept x ↔ Contains all x)
different_weights all sorted kept permuted up is =
    rw is (
      (λ i j d lt in_range. Less-from_sorted (slice_cmp nat_cmp) (dedup (pointwise nat_eq) sorted) i j d (IsStrictlySortedBy-dedup nat_list_cmp_total (lists_ties nat_cmp number_ties) sorted up) lt in_range),
      (λ x. (
        λ m. Contains-permutation sorted all x (IsPermutation-sym all sorted permuted) (Contains-from_dedup (pointwise nat_eq) sorted x m),
        λ m. Contains-dedup nat_list_eq_equiv same_numbers sorted x (Contains-permutation all sorted x permuted m),
      )),
    )
