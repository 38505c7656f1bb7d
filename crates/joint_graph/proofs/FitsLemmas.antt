-- A weight that fits some type, one type after the other.
use Rattle.std.proofs.Common.{◌≡◌, ℕ, ◌+◌, ◌-◌, ◌<◌, ◌≤◌, List, [], length, get_or, sym, ap, ◌∙◌, subst, ⊎_elim, arith}
use Rattle.std.proofs.lemmas.Bool.{cases_lt}
use Rattle.std.proofs.lemmas.List.{get_or_default}
use Rattle.weight_vec.specs.Weight.{AtMost}
use Rattle.joint_graph.specs.Joints.{FitsSome, cap_at}

module _ (caps : List (List ℕ)) (weight : List ℕ) where
  pub fits-here : (l : List ℕ) (t : ℕ) → t < length caps → l ≡ get_or caps t l → AtMost weight l → FitsSome caps weight
  fits-here l t lt at fits =
      let index : t + 1 - 1 ≡ t = omega arith in
      let here : l ≡ cap_at caps (t + 1) = at ∙ get_or_default caps t l [] lt ∙ sym (ap (λ (k : ℕ). get_or caps k []) index) in
      (t + 1, (omega arith, omega arith), subst (λ (c : List ℕ). AtMost weight c) here fits)

  pub fits-more : (l : List ℕ) (t : ℕ) → t < length caps → l ≡ get_or caps t l → (AtMost weight l → ⊥) → ((k : ℕ) → k < t → AtMost weight (get_or caps k []) → ⊥) → (k : ℕ) → k < t + 1 → AtMost weight (get_or caps k []) → ⊥
  fits-more l t lt at never before k low fits =
      ⊎_elim
      (λ early. before k early fits)
      (λ late.
      let same : k ≡ t = omega arith in
      let here : get_or caps k [] ≡ l = ap (λ (j : ℕ). get_or caps j []) same ∙ sym (get_or_default caps t l [] lt) ∙ sym at in
      never (subst (λ (c : List ℕ). AtMost weight c) here fits))
      (cases_lt k t)

  pub fits-never : (n : ℕ) → length caps ≤ n → ((k : ℕ) → k < n → AtMost weight (get_or caps k []) → ⊥) → FitsSome caps weight → ⊥
  fits-never n all before fits = before (fits.0 - 1) (omega (arith, fits.1.0, fits.1.1)) fits.2
