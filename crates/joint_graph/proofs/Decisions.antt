-- What can be told: whether a weight fits some type, and whether one of the first numbers has a property.
use Rattle.std.proofs.Common.{◌≡◌, ℕ, zero, suc, ◌<◌, ◌⊎◌, Option, Some, None, List, [], length, get_or, refl, sym, ap, ◌∙◌, subst, inl, inr, ⊎_elim, arith}
use Rattle.std.proofs.lemmas.Bool.{cases_lt, cases_Bool, false≢true}
use Rattle.std.proofs.lemmas.List.{get_or_default}
use Rattle.weight_vec.specs.Weight.{AtMost, Before}
use Rattle.label_graph.proofs.InOrder.{before-compare}
use Rattle.label_graph.proofs.Merging.{never_before_itself}
use Rattle.level_graph.specs.inner.Layers.{at_most}
use Rattle.level_graph.proofs.Takes.{at_most-sound, at_most-complete}
use Rattle.joint_graph.specs.Joints.{FitsSome}
use Rattle.joint_graph.proofs.FitsLemmas.{fits-here, fits-never}

-- it is so, or it is not
abbrev pub Told : Type 0 → Type 0
Told P = P ⊎ (P → ⊥)

module _ (P : ℕ → Type 0) (each : (k : ℕ) → Told (P k)) where
  pub told-some : (n : ℕ) → ((k : ℕ) × (k < n) × P k) ⊎ ((k : ℕ) → k < n → P k → ⊥)
  told-some zero = inr (λ k lt h. absurd (omega arith))
  told-some (suc n) =
      ⊎_elim
      (λ found. inl (found.0, omega (arith, found.1), found.2))
      (λ none. ⊎_elim
      (λ here. inl (n, omega arith, here))
      (λ never. inr (λ k lt h. ⊎_elim
      (λ early. none k early h)
      (λ late. let same : k ≡ n = omega arith in never (subst P same h))
      (cases_lt k n)))
      (each n))
      (told-some n)

pub told-all : (P : ℕ → Type 0) → ((k : ℕ) → Told (P k)) → (n : ℕ) → Told ((k : ℕ) → k < n → P k)
told-all P each n =
    ⊎_elim
    (λ found. inr (λ all. found.2 (all found.0 found.1)))
    (λ none. inl (λ k lt. ⊎_elim (λ h. h) (λ never. absurd (none k lt never)) (each k)))
    (told-some (λ (k : ℕ). P k → ⊥) (λ k. ⊎_elim (λ h. inr (λ never. never h)) (λ never. inl never) (each k)) n)

pub told-at_most : (xs ys : List ℕ) → Told (AtMost xs ys)
told-at_most xs ys =
    ⊎_elim
    (λ t. inl (at_most-sound xs ys t))
    (λ f. inr (λ h. false≢true (sym f ∙ at_most-complete xs ys h)))
    (cases_Bool (at_most xs ys))

pub told-fits : (caps : List (List ℕ)) (weight : List ℕ) → Told (FitsSome caps weight)
told-fits caps weight =
    ⊎_elim
    (λ found.
    let l = get_or caps found.0 [] in
    inl (fits-here caps weight l found.0 found.1 (get_or_default caps found.0 [] l found.1) found.2))
    (λ none. inr (λ fits. fits-never caps weight (length caps) (omega arith) none fits))
    (told-some (λ (k : ℕ). AtMost weight (get_or caps k [])) (λ k. told-at_most weight (get_or caps k [])) (length caps))

told-list : (xs ys : List ℕ) → Told (xs ≡ ys)
told-list xs ys =
    ⊎_elim
    (λ before. inr (λ same. never_before_itself ys (subst (λ (l : List ℕ). Before l ys) same before)))
    (λ other. ⊎_elim
    (λ same. inl same)
    (λ after. inr (λ same. never_before_itself ys (subst (λ (l : List ℕ). Before ys l) same after)))
    other)
    (before-compare xs ys)

abbrev got : List ℕ → Option (List ℕ) → List ℕ
got d None = d
got d (Some xs) = xs

pub told-option : (o p : Option (List ℕ)) → Told (o ≡ p)
told-option None None = inl refl
told-option None (Some ys) = inr (λ same. let bad : None ≡ Some ys = same in cc)
told-option (Some xs) None = inr (λ same. let bad : None ≡ Some xs = sym same in cc)
told-option (Some xs) (Some ys) = ⊎_elim (λ same. inl (ap Some same)) (λ never. inr (λ same. never (ap (got xs) same))) (told-list xs ys)
