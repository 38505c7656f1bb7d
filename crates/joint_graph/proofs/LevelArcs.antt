-- The arcs of joint levels, one after the other.
use Rattle.std.proofs.Common.{◌≡◌, ℕ, ◌+◌, ◌-◌, ◌<◌, ◌≤◌, ◌⊎◌, ◌↔◌, Option, Some, None, List, [], ◌∷◌, ◌++◌, length, get_or, refl, sym, ap, ◌∙◌, subst, inl, inr, ⊎_elim, arith}
use Rattle.std.specs.Prelude.{Contains}
use Rattle.std.specs.List.Sorted.{IsStrictlySortedBy}
use Rattle.std.proofs.lemmas.Bool.{cases_lt}
use Rattle.std.proofs.lemmas.List.{get_or_default}
use Rattle.std.proofs.lemmas.List.Elements.{Contains-append_left, Contains-push, Contains-push_cases}
use Rattle.weight_vec.specs.Weight.{AtMost}
use Rattle.label_graph.specs.declared.parts.GraphArc.{GraphArc}
use Rattle.label_graph.specs.declared.parts.Piece.{Piece}
use Rattle.label_graph.specs.declared.parts.Mark.{Mark}
use Rattle.label_graph.specs.declared.parts.Mark.TheVariants.{Loss, Piece as Carries}
use Rattle.joint_graph.specs.declared.states.State.{State}
use Rattle.joint_graph.specs.Numbers.{IsNumber}
use Rattle.joint_graph.specs.Joints.{cap_at}
use Rattle.joint_graph.specs.JointLevels.{Step, IsStepArc, IsEndArc, state_cmp}
use Rattle.joint_graph.specs.inner.Pushes.{Follows, Appends, AreStates, IsArcTo, IsEndTo, IsEndBelow, IsArcFrom, AreArcsBefore}
use Rattle.joint_graph.proofs.StateOrders.{state-total}
use Rattle.joint_graph.proofs.FoundStates.{step-one, follows-step, reached-step}
use Rattle.joint_graph.proofs.RankLemmas.{number-one}

pub appends-one : (old new : List GraphArc) (a : GraphArc) (Kind : GraphArc → Type 0) → new ≡ old ++ a ∷ [] → Kind a → ((e : GraphArc) → Kind e → a ≡ e) → Appends old new Kind
appends-one old new a Kind is here only e = (
  λ m. ⊎_elim (λ was. inl was) (λ same. inr (subst Kind same here)) (Contains-push_cases old a e (subst (λ (zs : List GraphArc). Contains zs e) is m)),
  λ w. subst (λ (zs : List GraphArc). Contains zs e) (sym is) (⊎_elim (λ m. Contains-append_left old (a ∷ []) e m) (λ k. subst (λ (z : GraphArc). Contains (old ++ a ∷ []) z) (only e k) (Contains-push old a)) w),
)

pub appends-none : (old : List GraphArc) (Kind : GraphArc → Type 0) → ((e : GraphArc) → Kind e → ⊥) → Appends old old Kind
appends-none old Kind never e = (λ m. inl m, λ w. ⊎_elim (λ m. m) (λ k. absurd (never e k)) w)

module _ {N : ℕ} (states : List (State N)) (i : ℕ) where
  pub number-at : (s : State N) → i < length states → s ≡ get_or states i s → IsNumber states (i + 1) s
  number-at s lt at =
      let same : i + 1 - 1 ≡ i = omega arith in
      record { low = omega arith; high = omega arith; here = λ d. ap (λ (k : ℕ). get_or states k d) same ∙ get_or_default states i d s lt ∙ sym at }

  -- one more arc to a state
  pub arc-to : IsStrictlySortedBy state_cmp states → (m : Mark) (t : State N) (n : ℕ) (old new : List GraphArc) → IsNumber states n t → new ≡ old ++ record { tail = i + 1; head = n; mark = m } ∷ [] → Appends old new (IsArcTo states i m (Some t))
  arc-to up m t n old new number is =
      appends-one old new (record { tail = i + 1; head = n; mark = m }) (λ (e : GraphArc). IsArcTo states i m (Some t) e) is (refl, refl, number)
      (λ e k.
      let head : n ≡ e.head = number-one state_cmp state-total states up n e.head t t number k.2 refl in
      λ j. record { tail = sym k.0 j; head = head j; mark = sym k.1 j })

  pub arc-none : (m : Mark) (old : List GraphArc) → Appends old old (IsArcTo states i m None)
  arc-none m old = appends-none old (λ (e : GraphArc). IsArcTo states i m None e) (λ e k. k)

-- arcs to targets, type by type
module _ (caps : List (List ℕ)) (count i : ℕ) (used : List ℕ) where
  pub ends-first : (old : List GraphArc) → Appends old old (IsEndBelow caps count i used 0)
  ends-first old = appends-none old (λ (e : GraphArc). IsEndBelow caps count i used 0 e) (λ e k. absurd (let w = k.2 in omega (arith, w.1.0, w.2)))

  ends-one : (old mid new : List GraphArc) (n : ℕ) → Appends old mid (IsEndBelow caps count i used n) → ((e : GraphArc) → Contains new e ↔ (Contains mid e ⊎ ((e.tail ≡ i + 1) × (e.mark ≡ Loss) × (e.head ≡ count + (n + 1)) × AtMost used (cap_at caps (n + 1))))) → n < length caps → Appends old new (IsEndBelow caps count i used (n + 1))
  ends-one old mid new n before more lt e = (
    λ m. ⊎_elim
        (λ was. ⊎_elim (λ first. inl first) (λ k. inr (k.0, k.1, (k.2.0, k.2.1, omega (arith, k.2.2), k.2.3, k.2.4))) ((before e).0 was))
        (λ k. inr (k.0, k.1, (n + 1, (omega arith, omega arith), omega arith, k.3, k.2)))
        ((more e).0 m),
    λ w. (more e).1 (⊎_elim
        (λ first. inl ((before e).1 (inl first)))
        (λ k.
        let t = k.2.0 in
        ⊎_elim
        (λ early. inl ((before e).1 (inr (k.0, k.1, (t, k.2.1, omega arith, k.2.3, k.2.4)))))
        (λ late.
        let same : t ≡ n + 1 = omega (arith, k.2.2) in
        inr (k.0, k.1, omega (arith, k.2.4), subst (λ (s : ℕ). AtMost used (cap_at caps s)) same k.2.3))
        (cases_lt t (n + 1)))
        w),
  )

  pub ends-more : (old mid new : List GraphArc) (n h : ℕ) → h ≡ count + n + 1 → new ≡ mid ++ record { tail = i + 1; head = h; mark = Loss } ∷ [] → n < length caps → (l : List ℕ) → l ≡ get_or caps n l → AtMost used l → Appends old mid (IsEndBelow caps count i used n) → Appends old new (IsEndBelow caps count i used (n + 1))
  ends-more old mid new n h head is lt l at fits before =
      let index : n + 1 - 1 ≡ n = omega arith in
      let here : l ≡ cap_at caps (n + 1) = at ∙ get_or_default caps n l [] lt ∙ sym (ap (λ (k : ℕ). get_or caps k []) index) in
      let fits_here : AtMost used (cap_at caps (n + 1)) = subst (λ (c : List ℕ). AtMost used c) here fits in
      ends-one old mid new n before
      (appends-one mid new (record { tail = i + 1; head = h; mark = Loss }) (λ (e : GraphArc). (e.tail ≡ i + 1) × (e.mark ≡ Loss) × (e.head ≡ count + (n + 1)) × AtMost used (cap_at caps (n + 1))) is
      (refl, refl, omega arith, fits_here)
      (λ e k. let same : h ≡ e.head = omega (arith, k.2) in λ j. record { tail = sym k.0 j; head = same j; mark = sym k.1 j }))
      lt

  pub ends-same : (old mid : List GraphArc) (n : ℕ) → n < length caps → (l : List ℕ) → l ≡ get_or caps n l → (AtMost used l → ⊥) → Appends old mid (IsEndBelow caps count i used n) → Appends old mid (IsEndBelow caps count i used (n + 1))
  ends-same old mid n lt l at never before =
      let index : n + 1 - 1 ≡ n = omega arith in
      let here : cap_at caps (n + 1) ≡ l = ap (λ (k : ℕ). get_or caps k []) index ∙ sym (get_or_default caps n l [] lt) ∙ sym at in
      ends-one old mid mid n before
      (appends-none mid (λ (e : GraphArc). (e.tail ≡ i + 1) × (e.mark ≡ Loss) × (e.head ≡ count + (n + 1)) × AtMost used (cap_at caps (n + 1))) (λ e k. never (subst (λ (c : List ℕ). AtMost used c) here k.3)))
      lt

  pub ends-all : (old new : List GraphArc) (n : ℕ) → length caps ≤ n → Appends old new (IsEndBelow caps count i used n) → Appends old new (IsEndTo caps count i used)
  ends-all old new n all before e = (
    λ m. ⊎_elim (λ was. inl was) (λ k. inr (k.0, k.1, (k.2.0, k.2.1, k.2.3, k.2.4))) ((before e).0 m),
    λ w. (before e).1 (⊎_elim (λ was. inl was) (λ k. inr (k.0, k.1, (k.2.0, k.2.1, omega (arith, k.2.1.1), k.2.2, k.2.3))) w),
  )

-- all arcs from the state at an index
module _ {N : ℕ} (pieces : List (Piece N)) (caps : List (List ℕ)) (states : List (State N)) (i : ℕ) (s : State N) (lt : i < length states) (at : s ≡ get_or states i s) where
  from-is : (e : GraphArc) (f : State N) → e.tail ≡ i + 1 → IsNumber states e.tail f → f ≡ s
  from-is e f tail number =
      let index : e.tail - 1 ≡ i = omega arith in
      sym (number.here s) ∙ ap (λ (k : ℕ). get_or states k s) index ∙ sym at

  to-step-arc : (m : Mark) (o : Option (State N)) (e : GraphArc) → Follows pieces caps s m o → IsArcTo states i m o e → IsStepArc pieces caps states e
  to-step-arc m None e follows k = absurd k
  to-step-arc m (Some t) e follows k =
      record {
        from = s;
        to = t;
        tail_at = subst (λ (v : ℕ). IsNumber states v s) (sym k.0) (number-at states i s lt at);
        head_at = k.2;
        step = subst (λ (n : Mark). Step pieces caps s n t) (sym k.1) follows;
      }

  of-step-arc : (m : Mark) (o : Option (State N)) (e : GraphArc) → Follows pieces caps s m o → (arc : IsStepArc pieces caps states e) → e.tail ≡ i + 1 → e.mark ≡ m → IsArcTo states i m o e
  of-step-arc m o e follows arc tail mark =
      let from = from-is e arc.from tail arc.tail_at in
      let step : Step pieces caps s m arc.to = subst (λ (n : Mark). Step pieces caps s n arc.to) mark (subst (λ (f : State N). Step pieces caps f e.mark arc.to) from arc.step) in
      on o follows step
    where
      on : (o : Option (State N)) → Follows pieces caps s m o → Step pieces caps s m arc.to → IsArcTo states i m o e
      on None follows step = absurd (follows arc.to step)
      on (Some t) follows step = (tail, mark, subst (λ (z : State N). IsNumber states e.head z) (step-one pieces caps m s arc.to t step follows) arc.head_at)

  to-end-arc : (e : GraphArc) → length pieces ≤ s.piece → IsEndTo caps (length states) i s.used e → IsEndArc pieces caps states e
  to-end-arc e last k =
      record {
        from = s;
        tail_at = subst (λ (v : ℕ). IsNumber states v s) (sym k.0) (number-at states i s lt at);
        last = last;
        bin_type = k.2.0;
        is_type = k.2.1;
        fits = k.2.2;
        head_is = k.2.3;
        mark_is = k.1;
      }

  of-end-arc : (e : GraphArc) → (arc : IsEndArc pieces caps states e) → e.tail ≡ i + 1 → (length pieces ≤ s.piece) × IsEndTo caps (length states) i s.used e
  of-end-arc e arc tail =
      let from = from-is e arc.from tail arc.tail_at in (
        subst (λ (f : State N). length pieces ≤ f.piece) from arc.last,
        (tail, arc.mark_is, (arc.bin_type, arc.is_type, subst (λ (f : State N). AtMost f.used (cap_at caps arc.bin_type)) from arc.fits, arc.head_is)),
      )

  mark-cases : (m : Mark) (e : GraphArc) (arc : IsStepArc pieces caps states e) → e.tail ≡ i + 1 → e.mark ≡ m → (e.mark ≡ Carries s.piece) ⊎ (e.mark ≡ Loss)
  mark-cases (Carries p) e arc tail mark =
      let from = from-is e arc.from tail arc.tail_at in
      let step : Step pieces caps s (Carries p) arc.to = subst (λ (n : Mark). Step pieces caps s n arc.to) mark (subst (λ (f : State N). Step pieces caps f e.mark arc.to) from arc.step) in
      inl (mark ∙ ap (λ (q : ℕ). Carries q) step.0)
  mark-cases Loss e arc tail mark = inr mark

  pub arcs-from : (old one two new : List GraphArc) (taken skipped : Option (State N)) → Follows pieces caps s (Carries s.piece) taken → Follows pieces caps s Loss skipped → Appends old one (IsArcTo states i (Carries s.piece) taken) → Appends one two (IsArcTo states i Loss skipped) → (((length pieces ≤ s.piece) × Appends two new (IsEndTo caps (length states) i s.used)) ⊎ ((s.piece < length pieces) × (new ≡ two))) → Appends old new (IsArcFrom pieces caps states i)
  arcs-from old one two new taken skipped takes skips first second third e = (
    λ m. ⊎_elim
        (λ w. ⊎_elim (λ was. in-two was) (λ k. inr (inr (to-end-arc e w.0 k), k.0)) ((w.1 e).0 m))
        (λ w. in-two (subst (λ (zs : List GraphArc). Contains zs e) w.1 m))
        third,
    λ w. ⊎_elim (λ was. from-two ((second e).1 (inl ((first e).1 (inl was))))) (λ k. ⊎_elim
        (λ arc. ⊎_elim
        (λ take. from-two ((second e).1 (inl ((first e).1 (inr (of-step-arc (Carries s.piece) taken e takes arc k.1 take))))))
        (λ skip. from-two ((second e).1 (inr (of-step-arc Loss skipped e skips arc k.1 skip))))
        (mark-cases e.mark e arc k.1 refl))
        (λ arc.
        let end = of-end-arc e arc k.1 in
        ⊎_elim (λ v. (v.1 e).1 (inr end.1)) (λ v. absurd (omega (arith, v.0, end.0))) third)
        k.0)
        w,
  )
    where
      from-two : Contains two e → Contains new e
      from-two m = ⊎_elim (λ v. (v.1 e).1 (inl m)) (λ v. subst (λ (zs : List GraphArc). Contains zs e) (sym v.1) m) third

      in-two : Contains two e → Contains old e ⊎ IsArcFrom pieces caps states i e
      in-two m =
          ⊎_elim
          (λ was. ⊎_elim (λ first_was. inl first_was) (λ k. inr (inl (to-step-arc (Carries s.piece) taken e takes k), arc-tail (Carries s.piece) taken k)) ((first e).0 was))
          (λ k. inr (inl (to-step-arc Loss skipped e skips k), arc-tail Loss skipped k))
          ((second e).0 m)
        where
          arc-tail : (m : Mark) (o : Option (State N)) → IsArcTo states i m o e → e.tail ≡ i + 1
          arc-tail m None k = absurd k
          arc-tail m (Some t) k = k.0

-- the arcs from one state after the other
module _ {N : ℕ} (pieces : List (Piece N)) (caps : List (List ℕ)) (states : List (State N)) where
  abbrev AnyArc : GraphArc → Type 0
  AnyArc e = IsStepArc pieces caps states e ⊎ IsEndArc pieces caps states e

  pub any-tail : (e : GraphArc) → AnyArc e → (1 ≤ e.tail) × (e.tail ≤ length states)
  any-tail e w = ⊎_elim (λ arc. (arc.tail_at.low, arc.tail_at.high)) (λ arc. (arc.tail_at.low, arc.tail_at.high)) w

  pub arcs-none : AreArcsBefore pieces caps states 0 []
  arcs-none e = (λ m. absurd (let lt : m.0 < 0 = m.1 in omega arith), λ w. absurd (omega (arith, (any-tail e w.0).0, w.1)))

  pub arcs-more : (n : ℕ) (old new : List GraphArc) → AreArcsBefore pieces caps states n old → Appends old new (IsArcFrom pieces caps states n) → AreArcsBefore pieces caps states (n + 1) new
  arcs-more n old new before more e = (
    λ m. ⊎_elim (λ was. let k = (before e).0 was in (k.0, omega (arith, k.1))) (λ k. (k.0, omega (arith, k.1))) ((more e).0 m),
    λ w. (more e).1 (⊎_elim (λ early. inl ((before e).1 (w.0, omega arith))) (λ late. inr (w.0, omega (arith, w.1))) (cases_lt e.tail (n + 1))),
  )

-- what follows a state stands among the states
pub followed-there : {N : ℕ} (pieces : List (Piece N)) (caps : List (List ℕ)) (states : List (State N)) → AreStates pieces caps states → (i : ℕ) (s : State N) → i < length states → s ≡ get_or states i s → (m : Mark) (o : Option (State N)) → Follows pieces caps s m o → (t : State N) → o ≡ Some t → Contains states t
followed-there pieces caps states are i s lt at m o follows t e =
    (are.reached t).1 (reached-step pieces caps s t m ((are.reached s).0 (i, lt, sym at)) (follows-step pieces caps m s o t follows e))

-- the arcs from all states
pub arcs-all : {N : ℕ} (pieces : List (Piece N)) (caps : List (List ℕ)) (states : List (State N)) (arcs sorted : List GraphArc) → AreArcsBefore pieces caps states (length states) arcs → ((e : GraphArc) → Contains sorted e ↔ Contains arcs e) → (e : GraphArc) → Contains sorted e ↔ (IsStepArc pieces caps states e ⊎ IsEndArc pieces caps states e)
arcs-all pieces caps states arcs sorted before same e = (
  λ m. ((before e).0 ((same e).0 m)).0,
  λ w. (same e).1 ((before e).1 (w, (any-tail pieces caps states e w).1)),
)
