-- What is left while copies of one piece are taken: it is above what is used, and lifting what is used changes nothing of it.
use Rattle.std.proofs.Common.{◌≡◌, ℕ, zero, suc, ◌+◌, ◌*◌, ◌⊎◌, Bool, List, length, get_or, min, refl, sym, ap, ◌∙◌, inl, inr, ⊎_elim, if◌then◌else◌, arith}
use Rattle.std.proofs.lemmas.Bool.{cases_Bool, cases_lt, false≢true}
use Rattle.weight_vec.specs.Weight.{AtMost, lower, minus, plus}
use Rattle.weight_vec.proofs.Places.{get_or-plus, get_or-minus, get_or-lower, length-minus, length-lower}
use Rattle.level_graph.specs.inner.Layers.{at_most}
use Rattle.level_graph.proofs.Takes.{at_most-sound, at_most-complete}
use Rattle.lift_build.specs.inner.Rooms.{left_taking, HasSum, WithMultiples}

-- what a function that tells what is left keeps
pub record IsRoom (N : ℕ) (cap : List ℕ) (left : List ℕ → List ℕ) : Type 0 where
  pub sized : (x : List ℕ) → length (left x) ≡ N
  pub within : (x : List ℕ) → AtMost (left x) cap
  pub above : (x : List ℕ) → AtMost x cap → AtMost x (left x)
  pub same : (x y : List ℕ) → AtMost x y → AtMost y (left x) → left x ≡ left y

pub min_cases : (a b : ℕ) → (min a b ≡ a) ⊎ (min a b ≡ b)
min_cases a b = ⊎_elim (λ lt. inl (omega arith)) (λ ge. inr (omega arith)) (cases_lt a b)

module _ (N : ℕ) (cap w : List ℕ) (behind : List ℕ → List ℕ) (is : IsRoom N cap behind) where
  abbrev left : ℕ → List ℕ → List ℕ
  left n x = left_taking cap w behind n x

  abbrev both : ℕ → List ℕ → List ℕ
  both n x = lower (behind x) (minus (left n (plus x w)) w)

  pub take-fits : (n : ℕ) (x : List ℕ) → AtMost (plus x w) cap → left (suc n) x ≡ both n x
  take-fits n x fits = ap (λ (b : Bool). if b then both n x else behind x) (at_most-complete (plus x w) cap fits)

  pub take-heavy : (n : ℕ) (x : List ℕ) → (AtMost (plus x w) cap → ⊥) → left n x ≡ behind x
  take-heavy zero x heavy = refl
  take-heavy (suc n) x heavy = ap (λ (b : Bool). if b then both n x else behind x) (⊎_elim (λ t. absurd (heavy (at_most-sound (plus x w) cap t))) (λ f. f) (cases_Bool (at_most (plus x w) cap)))

  pub fits-or : (x : List ℕ) → AtMost (plus x w) cap ⊎ (AtMost (plus x w) cap → ⊥)
  fits-or x =
      ⊎_elim
      (λ t. inl (at_most-sound (plus x w) cap t))
      (λ f. inr (λ fits. false≢true (sym f ∙ at_most-complete (plus x w) cap fits)))
      (cases_Bool (at_most (plus x w) cap))

  pub taking-is_room : (n : ℕ) → IsRoom N cap (left n)
  taking-is_room zero = is
  taking-is_room (suc n) =
      let rest = taking-is_room n in
      record {
        sized = λ x. ⊎_elim
            (λ fits. ap length (take-fits n x fits) ∙ length-lower (behind x) (minus (left n (plus x w)) w) (is.sized x ∙ sym (length-minus (left n (plus x w)) w ∙ rest.sized (plus x w))) ∙ is.sized x)
            (λ heavy. ap length (take-heavy (suc n) x heavy) ∙ is.sized x)
            (fits-or x);
        within = λ x d. ⊎_elim
            (λ fits. omega (arith, ap (λ (l : List ℕ). get_or l d 0) (take-fits n x fits), get_or-lower (behind x) (minus (left n (plus x w)) w) d, is.within x d))
            (λ heavy. omega (arith, ap (λ (l : List ℕ). get_or l d 0) (take-heavy (suc n) x heavy), is.within x d))
            (fits-or x);
        above = λ x low d. ⊎_elim
            (λ fits. omega (arith, ap (λ (l : List ℕ). get_or l d 0) (take-fits n x fits), get_or-lower (behind x) (minus (left n (plus x w)) w) d, get_or-minus (left n (plus x w)) w d, get_or-plus x w d, is.above x low d, rest.above (plus x w) fits d))
            (λ heavy. omega (arith, ap (λ (l : List ℕ). get_or l d 0) (take-heavy (suc n) x heavy), is.above x low d))
            (fits-or x);
        same = λ x y low high. ⊎_elim
            (λ fits.
            let more : AtMost (plus y w) (left n (plus x w)) = λ d. omega (arith, high d, ap (λ (l : List ℕ). get_or l d 0) (take-fits n x fits), get_or-lower (behind x) (minus (left n (plus x w)) w) d, get_or-minus (left n (plus x w)) w d, get_or-plus x w d, get_or-plus y w d, rest.above (plus x w) fits d) in
            let under : AtMost y (behind x) = λ d. omega (arith, high d, ap (λ (l : List ℕ). get_or l d 0) (take-fits n x fits), get_or-lower (behind x) (minus (left n (plus x w)) w) d) in
            let fits_too : AtMost (plus y w) cap = λ d. omega (arith, more d, rest.within (plus x w) d) in
            let skips : behind x ≡ behind y = is.same x y low under in
            let takes : left n (plus x w) ≡ left n (plus y w) = rest.same (plus x w) (plus y w) (λ d. omega (arith, low d, get_or-plus x w d, get_or-plus y w d)) more in
            take-fits n x fits ∙ (λ i. lower (skips i) (minus (takes i) w)) ∙ sym (take-fits n y fits_too))
            (λ heavy.
            let under : AtMost y (behind x) = λ d. omega (arith, high d, ap (λ (l : List ℕ). get_or l d 0) (take-heavy (suc n) x heavy)) in
            take-heavy (suc n) x heavy ∙ is.same x y low under ∙ sym (take-heavy (suc n) y (λ fits. heavy (λ d. omega (arith, fits d, low d, get_or-plus x w d, get_or-plus y w d)))))
            (fits-or x);
      }

  -- what is left is no more than what is left once the piece is skipped
  pub below-skip : (n : ℕ) (x : List ℕ) → AtMost (left n x) (behind x)
  below-skip zero x d = omega arith
  below-skip (suc n) x d = ⊎_elim
      (λ fits. omega (arith, ap (λ (l : List ℕ). get_or l d 0) (take-fits n x fits), get_or-lower (behind x) (minus (left n (plus x w)) w) d))
      (λ heavy. omega (arith, ap (λ (l : List ℕ). get_or l d 0) (take-heavy (suc n) x heavy)))
      (fits-or x)

  -- nor more than what is left behind a copy, less its weight
  pub below-take : (n : ℕ) (x : List ℕ) → AtMost (plus x w) cap → AtMost (plus (left (suc n) x) w) (left n (plus x w))
  below-take n x fits d =
      let rest = taking-is_room n in
      omega (arith, ap (λ (l : List ℕ). get_or l d 0) (take-fits n x fits), get_or-lower (behind x) (minus (left n (plus x w)) w) d, get_or-minus (left n (plus x w)) w d, get_or-plus x w d, get_or-plus (left (suc n) x) w d, rest.above (plus x w) fits d)

  module _ (d : ℕ) (sums : ℕ → Type 0) (has : (x : List ℕ) → AtMost x cap → HasSum cap d sums behind x) where
    pub taking-sums : (n : ℕ) (x : List ℕ) → AtMost x cap → HasSum cap d (WithMultiples (get_or w d 0) n sums) (left n) x
    taking-sums zero x low = let at = has x low in (at.0, (at.0, 0, at.1, omega arith, omega arith), at.2, at.3)
    taking-sums (suc n) x low = ⊎_elim
        (λ fits.
        let rest = taking-is_room n in
        let skip = has x low in
        let take = taking-sums n (plus x w) fits in
        let one : get_or (left (suc n) x) d 0 ≡ get_or (both n x) d 0 = ap (λ (l : List ℕ). get_or l d 0) (take-fits n x fits) in
        let low_of : get_or (both n x) d 0 ≡ min (get_or (behind x) d 0) (get_or (minus (left n (plus x w)) w) d 0) = get_or-lower (behind x) (minus (left n (plus x w)) w) d in
        ⊎_elim
        (λ first. (skip.0, (skip.0, 0, skip.1, omega arith, omega arith), skip.2, omega (arith, skip.3)))
        (λ second.
        let by = take.1 in
        let more : by.0 + suc by.1 * get_or w d 0 ≡ take.0 + get_or w d 0 = sum-more by.0 by.1 (get_or w d 0) take.0 by.4 in
        (take.0 + get_or w d 0, (by.0, suc by.1, by.2, omega (arith, by.3), more), omega (arith, take.2, get_or-plus x w d), omega (arith, take.3, get_or-minus (left n (plus x w)) w d, get_or-plus x w d, rest.above (plus x w) fits d)))
        (min_cases (get_or (behind x) d 0) (get_or (minus (left n (plus x w)) w) d 0)))
        (λ heavy.
        let skip = has x low in
        let one : get_or (left (suc n) x) d 0 ≡ get_or (behind x) d 0 = ap (λ (l : List ℕ). get_or l d 0) (take-heavy (suc n) x heavy) in
        (skip.0, (skip.0, 0, skip.1, omega arith, omega arith), skip.2, omega (arith, skip.3)))
        (fits-or x)
      where
        sum-more : (s j w v : ℕ) → s + j * w ≡ v → s + suc j * w ≡ v + w
        sum-more s j w v h = grind arith
