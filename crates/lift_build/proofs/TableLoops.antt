-- Tables of sums, sum by sum.
use Rattle.std.proofs.Common.{◌≡◌, ℕ, zero, suc, ◌+◌, ◌*◌, ◌<◌, ◌≤◌, ◌⊎◌, List, [], ◌∷◌, ◌++◌, length, get_or, Option, Some, None, refl, sym, ◌∙◌, subst, inl, inr, ⊎_elim, arith}
use Rattle.std.specs.Prelude.{MatchOption}
use Rattle.std.proofs.lemmas.Bool.{cases_lt}
use Rattle.std.proofs.lemmas.List.{length-append, get_or_append_left, get_or_push}
use Rattle.lift_build.specs.inner.Tables.{IsTable, HasMember, IsNextTable, IsWithin, IsLeast}

-- the table of the first sums
pub record TableSoFar (behind : List ℕ) (weight copies n : ℕ) (least : List (Option ℕ)) (table : List ℕ) (last : ℕ) : Type 0 where
  pub least_count : length least ≡ n
  pub count : length table ≡ n
  pub exact : (v : ℕ) → v < n → IsLeast behind weight copies v (get_or least v None)
  pub ordered : IsTable table
  pub below : (r : ℕ) → r < n → get_or table r 0 ≤ last
  pub early : last ≤ n
  pub marked : (v : ℕ) → v < n → (k : ℕ) → get_or least v None ≡ Some k → get_or table v 0 ≡ v

module _ (behind : List ℕ) (weight copies : ℕ) where
  pub table-start : TableSoFar behind weight copies 0 [] [] 0
  table-start = record {
    least_count = refl;
    count = refl;
    exact = λ v lt. absurd (omega arith);
    ordered = record { under = λ r lt. absurd (omega arith); rises = λ r q le lt. absurd (omega arith) };
    below = λ r lt. absurd (omega arith);
    early = omega arith;
    marked = λ v lt. absurd (omega arith);
  }

  -- one more sum
  pub table-more : (n : ℕ) (least : List (Option ℕ)) (table : List ℕ) (last : ℕ) (needed : Option ℕ) (next : ℕ) → TableSoFar behind weight copies n least table last → IsLeast behind weight copies n needed → ((k : ℕ) → needed ≡ Some k → next ≡ n) → (next ≡ n) ⊎ (next ≡ last) → TableSoFar behind weight copies (n + 1) (least ++ needed ∷ []) (table ++ next ∷ []) next
  table-more n least table last needed next old is mark cases =
      let rises : last ≤ next = ⊎_elim (λ e. omega (arith, old.early)) (λ e. omega arith) cases in
      let high : next ≤ n = ⊎_elim (λ e. omega arith) (λ e. omega (arith, old.early)) cases in
      let sized : length (table ++ next ∷ []) ≡ n + 1 = omega (arith, length-append table (next ∷ []), old.count) in
      let early : (r : ℕ) → r < n → get_or (table ++ next ∷ []) r 0 ≡ get_or table r 0 = λ r lt. get_or_append_left table (next ∷ []) 0 r (omega (arith, old.count)) in
      let here : (r : ℕ) → r ≡ n → get_or (table ++ next ∷ []) r 0 ≡ next = λ r e. get_or_push table next 0 r (omega (arith, old.count)) in
      let early_least : (v : ℕ) → v < n → get_or (least ++ needed ∷ []) v None ≡ get_or least v None = λ v lt. get_or_append_left least (needed ∷ []) None v (omega (arith, old.least_count)) in
      let here_least : (v : ℕ) → v ≡ n → get_or (least ++ needed ∷ []) v None ≡ needed = λ v e. get_or_push least needed None v (omega (arith, old.least_count)) in
      record {
        least_count = omega (arith, length-append least (needed ∷ []), old.least_count);
        count = sized;
        exact = λ v lt. ⊎_elim
            (λ low. subst (λ (o : Option ℕ). IsLeast behind weight copies v o) (sym (early_least v low)) (old.exact v low))
            (λ ge. let e : v ≡ n = omega arith in subst (λ (o : Option ℕ). IsLeast behind weight copies v o) (sym (here_least v e)) (subst (λ (u : ℕ). IsLeast behind weight copies u needed) (sym e) is))
            (cases_lt v n);
        ordered = record {
          under = λ r lt. ⊎_elim
              (λ low. omega (arith, early r low, old.ordered.under r (omega (arith, old.count))))
              (λ ge. let e : r ≡ n = omega arith in omega (arith, here r e))
              (cases_lt r n);
          rises = λ r q le lt. ⊎_elim
              (λ low. omega (arith, early r (omega arith), early q low, old.ordered.rises r q le (omega (arith, old.count))))
              (λ ge.
              let e : q ≡ n = omega arith in
              ⊎_elim
              (λ r_low. omega (arith, early r r_low, here q e, old.below r r_low))
              (λ r_ge. let f : r ≡ n = omega arith in omega (arith, here r f, here q e))
              (cases_lt r n))
              (cases_lt q n);
        };
        below = λ r lt. ⊎_elim
            (λ low. omega (arith, early r low, old.below r low))
            (λ ge. let e : r ≡ n = omega arith in omega (arith, here r e))
            (cases_lt r n);
        early = omega arith;
        marked = λ v lt k some. ⊎_elim
            (λ low. early v low ∙ old.marked v low k (sym (early_least v low) ∙ some))
            (λ ge. let e : v ≡ n = omega arith in here v e ∙ mark k (sym (here_least v e) ∙ some) ∙ sym e)
            (cases_lt v n);
      }

  pub table-next : (n : ℕ) (least : List (Option ℕ)) (table : List ℕ) (last : ℕ) (needed : Option ℕ) (next : ℕ) → TableSoFar behind weight copies n least table last → IsLeast behind weight copies n needed → MatchOption needed (next ≡ last) (λ k. next ≡ n) → TableSoFar behind weight copies (n + 1) (least ++ needed ∷ []) (table ++ next ∷ []) next
  table-next n least table last None next old is mark = table-more n least table last None next old is (λ k e. absurd (let bad : None ≡ Some k = e in cc)) (inr mark)
  table-next n least table last (Some j) next old is mark = table-more n least table last (Some j) next old is (λ k e. mark) (inl mark)

  pub table-end : (n : ℕ) (least : List (Option ℕ)) (table : List ℕ) (last : ℕ) → n ≡ length behind → TableSoFar behind weight copies n least table last → IsNextTable behind weight copies table
  table-end n least table last whole is = record {
    count = is.count ∙ whole;
    ordered = is.ordered;
    multiples = λ s j member few lt.
        let v = s + j * weight in
        by v (get_or least v None) (omega (arith, is.count)) j refl (is.exact v (omega (arith, is.count)) s j member few refl);
  }
    where
      by : (v : ℕ) (o : Option ℕ) → v < n → (j : ℕ) → get_or least v None ≡ o → IsWithin o j → get_or table v 0 ≡ v
      by v None lt j e within = absurd (omega arith)
      by v (Some k) lt j e within = is.marked v lt k e

  more-copies : (s i v : ℕ) → s + suc i * weight ≡ v → s + i * weight + weight ≡ v
  more-copies s i v h = grind arith

  -- a sum that is made with no copy is a member
  pub least-none : (sum : ℕ) → get_or behind sum 0 ≡ sum → IsLeast behind weight copies sum (Some 0)
  least-none sum e s j member few same = omega arith

  -- another sum is made with a copy, if it is made at all
  pub with_copies : (sum : ℕ) (o : Option ℕ) → (get_or behind sum 0 ≡ sum → ⊥) → ((s i : ℕ) → HasMember behind s → suc i ≤ copies → s + i * weight + weight ≡ sum → IsWithin o (suc i)) → IsLeast behind weight copies sum o
  with_copies sum o never rest s zero member few same = absurd (never (subst (λ (v : ℕ). get_or behind v 0 ≡ v) (let e : s ≡ sum = omega arith in e) member.1))
  with_copies sum o never rest s (suc i) member few same = rest s i member few (more-copies s i sum same)

  pub least-light : (sum : ℕ) → (get_or behind sum 0 ≡ sum → ⊥) → sum < weight → IsLeast behind weight copies sum None
  least-light sum never light = with_copies sum None never (λ s i member few same. absurd (omega arith))

  -- a weight of 0 makes nothing new
  pub least-same : (sum : ℕ) → (get_or behind sum 0 ≡ sum → ⊥) → weight ≡ 0 → IsLeast behind weight copies sum None
  least-same sum never none = with_copies sum None never (λ s i member few same.
      absurd (never (subst (λ (v : ℕ). get_or behind v 0 ≡ v) (let none_of : s + i * 0 + 0 ≡ sum = subst (λ (w : ℕ). s + i * w + w ≡ sum) none same in let e : s ≡ sum = omega arith in e) member.1)))

  -- one copy more than for the sum without it
  pub least-more : (sum before k : ℕ) → (get_or behind sum 0 ≡ sum → ⊥) → before + weight ≡ sum → IsLeast behind weight copies before (Some k) → IsLeast behind weight copies sum (Some (k + 1))
  least-more sum before k never there is = with_copies sum (Some (k + 1)) never (λ s i member few same. let le : k ≤ i = is s i member (omega arith) (omega arith) in omega arith)

  -- nor is a sum made with copies where the sum without one is not, or takes all of them
  pub least-never : (sum before : ℕ) → (get_or behind sum 0 ≡ sum → ⊥) → before + weight ≡ sum → IsLeast behind weight copies before None → IsLeast behind weight copies sum None
  least-never sum before never there is = with_copies sum None never (λ s i member few same. is s i member (omega arith) (omega arith))

  pub least-full : (sum before k : ℕ) → (get_or behind sum 0 ≡ sum → ⊥) → before + weight ≡ sum → copies ≤ k → IsLeast behind weight copies before (Some k) → IsLeast behind weight copies sum None
  least-full sum before k never there full is = with_copies sum None never (λ s i member few same. let le : k ≤ i = is s i member (omega arith) (omega arith) in absurd (omega arith))
