-- Things of which it can be told which are alike have numbers, the same where they are alike.
use Rattle.std.proofs.Common.{◌≡◌, ◌↔◌, ℕ, zero, suc, ◌+◌, ◌-◌, ◌<◌, ◌≤◌, ◌⊎◌, List, [], ◌∷◌, ◌++◌, length, get_or, refl, sym, ap, ◌∙◌, subst, inl, inr, ⊎_elim, arith}
use Rattle.std.proofs.lemmas.Bool.{cases_lt}
use Rattle.std.proofs.lemmas.List.{get_or_append_left, length-append}
use Rattle.std.proofs.Math.Seq.{get_or-append_seam}
use Rattle.joint_graph.specs.inner.Classes.{class_at}
use Rattle.joint_graph.proofs.Decisions.{Told, told-some}

-- the first n numbers in so many parts
pub record AreParts (Same : ℕ → ℕ → Type 0) (n : ℕ) (numbers : List ℕ) (count : ℕ) : Type 0 where
  pub sized : length numbers ≡ n
  pub few : count ≤ n
  pub first : 1 ≤ n → class_at numbers 1 ≡ 1
  pub low : (v : ℕ) → 1 ≤ v → v ≤ n → 1 ≤ class_at numbers v
  pub high : (v : ℕ) → 1 ≤ v → v ≤ n → class_at numbers v ≤ count
  pub onto : (w : ℕ) → 1 ≤ w → w ≤ count → (v : ℕ) × ((1 ≤ v) × (v ≤ n)) × (class_at numbers v ≡ w)
  pub same : (v w : ℕ) → 1 ≤ v → v ≤ n → 1 ≤ w → w ≤ n → (class_at numbers v ≡ class_at numbers w) ↔ Same v w

module _ (Same : ℕ → ℕ → Type 0) (itself : (v : ℕ) → Same v v) (back : (v w : ℕ) → Same v w → Same w v) (on : (u v w : ℕ) → Same u v → Same v w → Same u w) (told : (v w : ℕ) → Told (Same v w)) where
  -- one more, with a number that is given or the next one
  module _ (n : ℕ) (numbers : List ℕ) (count x more : ℕ) (are : AreParts Same n numbers count) (start : n ≡ 0 → x ≡ 1) (low : 1 ≤ x) (high : x ≤ more) (grows : count ≤ more) (few : more ≤ n + 1) (cases : (w : ℕ) → w ≤ more → (w ≤ count) ⊎ (x ≡ w)) (alike : (v : ℕ) → 1 ≤ v → v ≤ n → (class_at numbers v ≡ x) ↔ Same v (n + 1)) where
    abbrev new : List ℕ
    new = numbers ++ x ∷ []

    old-at : (v : ℕ) → 1 ≤ v → v ≤ n → class_at new v ≡ class_at numbers v
    old-at v first last = get_or_append_left numbers (x ∷ []) 0 (v - 1) (omega (arith, are.sized))

    new-at : (v : ℕ) → n < v → v ≤ n + 1 → class_at new v ≡ x
    new-at v past last =
        let index : v - 1 ≡ length numbers = omega (arith, are.sized) in
        ap (λ (k : ℕ). get_or new k 0) index ∙ get_or-append_seam numbers x [] 0

    same-last : (v w : ℕ) → 1 ≤ v → v ≤ n → n < w → w ≤ n + 1 → (class_at new v ≡ class_at new w) ↔ Same v w
    same-last v w first last past high_w =
        let at : n + 1 ≡ w = omega arith in
        let here = alike v first last in (
          λ e. subst (λ (k : ℕ). Same v k) at (here.0 (sym (old-at v first last) ∙ e ∙ new-at w past high_w)),
          λ s. old-at v first last ∙ here.1 (subst (λ (k : ℕ). Same v k) (sym at) s) ∙ sym (new-at w past high_w),
        )

    same-all : (v w : ℕ) → 1 ≤ v → v ≤ n + 1 → 1 ≤ w → w ≤ n + 1 → (class_at new v ≡ class_at new w) ↔ Same v w
    same-all v w v_low v_high w_low w_high =
        ⊎_elim
        (λ past. ⊎_elim
        (λ both.
        let equal : v ≡ w = omega arith in (
          λ e. subst (λ (k : ℕ). Same v k) equal (itself v),
          λ s. ap (class_at new) equal,
        ))
        (λ early.
        let turned = same-last w v w_low early past v_high in (
          λ e. back w v (turned.0 (sym e)),
          λ s. sym (turned.1 (back v w s)),
        ))
        (cases_lt n w))
        (λ front. ⊎_elim
        (λ late. same-last v w v_low front late w_high)
        (λ both.
        let here = are.same v w v_low front w_low both in (
          λ e. here.0 (sym (old-at v v_low front) ∙ e ∙ old-at w w_low both),
          λ s. old-at v v_low front ∙ here.1 s ∙ sym (old-at w w_low both),
        ))
        (cases_lt n w))
        (cases_lt n v)

    parts-more : AreParts Same (n + 1) new more
    parts-more =
        let longer : length new ≡ length numbers + 1 = length-append numbers (x ∷ []) in
        record {
          sized = omega (arith, longer, are.sized);
          few = few;
          first = λ some. ⊎_elim
              (λ old. old-at 1 (omega arith) old ∙ are.first old)
              (λ none. new-at 1 none (omega arith) ∙ start (omega arith))
              (cases_from n);
          low = λ v first last. ⊎_elim
              (λ past. omega (arith, new-at v past last))
              (λ old. omega (arith, old-at v first old, are.low v first old))
              (cases_lt n v);
          high = λ v first last. ⊎_elim
              (λ past. omega (arith, new-at v past last))
              (λ old. omega (arith, old-at v first old, are.high v first old))
              (cases_lt n v);
          onto = λ w first last. ⊎_elim
              (λ old. let v = are.onto w first old in (v.0, (v.1.0, omega (arith, v.1.1)), old-at v.0 v.1.0 v.1.1 ∙ v.2))
              (λ here. (n + 1, (omega arith, omega arith), new-at (n + 1) (omega arith) (omega arith) ∙ here))
              (cases w last);
          same = same-all;
        }
      where
        cases_from : (k : ℕ) → (1 ≤ k) ⊎ (k < 1)
        cases_from k = ⊎_elim (λ lt. inr lt) (λ ge. inl ge) (cases_lt k 1)

  pub parts_exist : (n : ℕ) → (numbers : List ℕ) × ((count : ℕ) × AreParts Same n numbers count)
  parts_exist zero = (
    [],
    (
      0,
      record {
        sized = refl;
        few = omega arith;
        first = λ some. absurd (omega arith);
        low = λ v first last. absurd (omega arith);
        high = λ v first last. absurd (omega arith);
        onto = λ w first last. absurd (omega arith);
        same = λ v w v_low v_high w_low w_high. absurd (omega arith);
      },
    ),
  )
  parts_exist (suc n) =
      let old = parts_exist n in
      let numbers = old.0 in
      let count = old.1.0 in
      let are = old.1.1 in
      let next : n + 1 ≡ suc n = omega arith in
      ⊎_elim
      (λ found.
      let w = found.0 + 1 in
      let low : 1 ≤ w = omega arith in
      let high : w ≤ n = omega (arith, found.1) in
      let x = class_at numbers w in
      let made = parts-more n numbers count x count are (λ none. absurd (omega arith)) (are.low w low high) (are.high w low high) (omega arith) (omega (arith, are.few)) (λ u last. inl last) (λ v first last. (
        λ e. on v w (n + 1) ((are.same v w first last low high).0 e) found.2,
        λ s. (are.same v w first last low high).1 (on v (n + 1) w s (back w (n + 1) found.2)),
      )) in
      (numbers ++ x ∷ [], (count, subst (λ (k : ℕ). AreParts Same k (numbers ++ x ∷ []) count) next made)))
      (λ none.
      let x = count + 1 in
      let made = parts-more n numbers count x x are (λ empty. omega (arith, are.few)) (omega arith) (omega arith) (omega arith) (omega (arith, are.few)) (λ u last. ⊎_elim (λ lt. inl (omega arith)) (λ ge. inr (omega arith)) (cases_lt u x)) (λ v first last. (
        λ e. absurd (omega (arith, are.high v first last)),
        λ s.
            let back_one : v - 1 + 1 ≡ v = omega arith in
            absurd (none (v - 1) (omega arith) (subst (λ (k : ℕ). Same k (n + 1)) (sym back_one) s)),
      )) in
      (numbers ++ x ∷ [], (x, subst (λ (k : ℕ). AreParts Same k (numbers ++ x ∷ []) x) next made)))
      (told-some (λ (k : ℕ). Same (k + 1) (n + 1)) (λ k. told (k + 1) (n + 1)) n)
