-- The arcs between the states, state by state.
use Rattle.std.proofs.Common.{◌≡◌, ℕ, ◌+◌, ◌-◌, ◌<◌, ◌≤◌, ◌⊎◌, ◌↔◌, List, [], ◌∷◌, ◌++◌, length, get_or, refl, sym, ap, ◌∙◌, subst, inl, inr, ⊎_elim, arith}
use Rattle.std.specs.Prelude.{Contains, AllPairs}
use Rattle.std.specs.declared.cmp.Ordering.TheVariants.{Less, Equal}
use Rattle.std.proofs.lemmas.Cmp.{tied_itself}
use Rattle.std.proofs.lemmas.Bool.{cases_lt, cases_order}
use Rattle.std.proofs.lemmas.List.{get_or_default}
use Rattle.std.proofs.lemmas.List.Elements.{Contains-append_left, Contains-push, Contains-push_cases, Contains-get_or}
use Rattle.std.proofs.lemmas.List.Quantifiers.{all_pairs_push}
use Rattle.label_graph.specs.declared.parts.GraphArc.{GraphArc}
use Rattle.label_graph.specs.declared.parts.Piece.{Piece}
use Rattle.label_graph.specs.declared.parts.Mark.{Mark}
use Rattle.label_graph.specs.declared.parts.Mark.TheVariants.{Loss, Piece as Carries}
use Rattle.label_graph.specs.Graph.{ArcBefore}
use Rattle.level_graph.specs.declared.states.State.{State}
use Rattle.level_graph.specs.Levels.{StateBefore, state_cmp, Step, IsReached, IsNode, IsStepArc, IsLevels, target}
use Rattle.level_graph.specs.inner.Layers.{AreStates, IsArcPushed, AppendsStep, take_mark, skip_mark}
use Rattle.level_graph.proofs.StateOrder.{state_total, before-piece, before-copies}
use Rattle.level_graph.proofs.Reached.{next_reached, reached-low, target-piece}

module _ {N : ℕ} where
  pub never_before_itself : (s : State N) → StateBefore s s → ⊥
  never_before_itself s h = let e : state_cmp s s ≡ Equal = tied_itself state_total s in let bad : Equal ≡ Less = sym e ∙ h in cc

  pub node-same : (states : List (State N)) (v : ℕ) (s t : State N) → IsNode states v s → IsNode states v t → s ≡ t
  node-same states v s t a b =
      let in_range : v - 1 < length states = omega (arith, a.0, a.1) in
      sym a.2 ∙ get_or_default states (v - 1) s t in_range ∙ b.2

  -- of two nodes the first state comes before the second one
  pub nodes-before : (states : List (State N)) → AllPairs StateBefore states → (v w : ℕ) (s t : State N) → IsNode states v s → IsNode states w t → v < w → StateBefore s t
  nodes-before states up v w s t a b lt =
      let in_range : v - 1 < length states = omega (arith, a.1, b.1) in
      let there : w - 1 < length states = omega (arith, b.0, b.1) in
      let low : v - 1 < w - 1 = omega (arith, a.0) in
      let pair : StateBefore (get_or states (v - 1) s) (get_or states (w - 1) s) = up (v - 1) (w - 1) s low there in
      let first : StateBefore s (get_or states (w - 1) s) = subst (λ (z : State N). StateBefore z (get_or states (w - 1) s)) a.2 pair in
      subst (λ (z : State N). StateBefore s z) (get_or_default states (w - 1) s t there ∙ b.2) first

  pub node-one : (states : List (State N)) → AllPairs StateBefore states → (v w : ℕ) (s : State N) → IsNode states v s → IsNode states w s → v ≡ w
  node-one states up v w s a b =
      ⊎_elim
      (λ same. same)
      (λ apart. ⊎_elim
      (λ lt. absurd (never_before_itself s (nodes-before states up v w s s a b lt)))
      (λ gt. absurd (never_before_itself s (nodes-before states up w v s s b a gt)))
      apart)
      (cases_order v w)

  pub node-up : (states : List (State N)) → AllPairs StateBefore states → (v w : ℕ) (s t : State N) → IsNode states v s → IsNode states w t → StateBefore s t → v < w
  node-up states up v w s t a b before =
      ⊎_elim
      (λ same. absurd (never_before_itself s (subst (λ (z : State N). StateBefore s z) (node-same states w t s b (subst (λ (n : ℕ). IsNode states n s) same a)) before)))
      (λ apart. ⊎_elim
      (λ lt. lt)
      (λ gt. absurd (never_before_itself s (state_total.trans s t s before (nodes-before states up w v t s b a gt))))
      apart)
      (cases_order v w)

  pub node-contains : (states : List (State N)) (v : ℕ) (s : State N) → IsNode states v s → Contains states s
  node-contains states v s a = let lt : v - 1 < length states = omega (arith, a.0, a.1) in (v - 1, lt, a.2)

  pub contains-node : (states : List (State N)) (s : State N) → Contains states s → (v : ℕ) × IsNode states v s
  contains-node states s m =
      let lt : m.0 < length states = m.1 in
      let same : m.0 + 1 - 1 ≡ m.0 = omega arith in
      (m.0 + 1, (omega arith, omega arith, subst (λ (i : ℕ). get_or states i s ≡ s) (sym same) m.2))

module _ {N : ℕ} (pieces : List (Piece N)) (room : List ℕ) where
  pub step-up : (s t : State N) (m : Mark) → 1 ≤ s.piece → Step pieces room s m t → StateBefore s t
  step-up s t (Carries p) low step =
      let same : t.piece ≡ s.piece = ap (λ (z : State N). z.piece) step.4 in
      let more : t.copies ≡ s.copies + 1 = ap (λ (z : State N). z.copies) step.4 in
      before-copies s t (sym same) (omega arith)
  step-up s t Loss low step =
      ⊎_elim
      (λ w. let up : t.piece ≡ s.piece + 1 = ap (λ (z : State N). z.piece) w.1 in before-piece s t (omega arith))
      (λ w. let up : t.piece ≡ (target pieces room).piece = ap (λ (z : State N). z.piece) w.1 in
      before-piece s t (omega (arith, w.0, target-piece pieces room (omega (arith, w.0)))))
      step

  -- a step leads to one state
  pub step-one : (s t u : State N) (m : Mark) → Step pieces room s m t → Step pieces room s m u → t ≡ u
  step-one s t u (Carries p) a b = a.4 ∙ sym b.4
  step-one s t u Loss a b =
      ⊎_elim
      (λ x. ⊎_elim (λ y. x.1 ∙ sym y.1) (λ y. absurd (omega (arith, x.0, y.0))) b)
      (λ x. ⊎_elim (λ y. absurd (omega (arith, x.0, y.0))) (λ y. x.1 ∙ sym y.1) b)
      a

  -- a take carries the piece at which the state stands
  pub step-mark : (s t : State N) (m : Mark) → Step pieces room s m t → (m ≡ Carries s.piece) ⊎ (m ≡ Loss)
  step-mark s t (Carries p) step = inl (ap Carries step.0)
  step-mark s t Loss step = inr refl

  -- the arcs from the first n states
  pub record ArcsSoFar (states : List (State N)) (n : ℕ) (arcs : List GraphArc) : Type 0 where
    pub ordered : AllPairs ArcBefore arcs
    pub exact : (e : GraphArc) → Contains arcs e ↔ (IsStepArc pieces room states e × (e.tail ≤ n))

  pub arcs-start : (states : List (State N)) → ArcsSoFar states 0 []
  arcs-start states =
      record {
        ordered = λ i j d lt in_range. absurd (omega arith);
        exact = λ e. (
          λ m. absurd (let lt : m.0 < 0 = m.1 in omega arith),
          λ w. let low = w.0.tail_at.0 in absurd (omega (arith, w.1)),
        );
      }

  module _ (states : List (State N)) (are : AreStates pieces room states) (n : ℕ) (s : State N) (node : IsNode states (n + 1) s) where
    pub state-reached : IsReached pieces room s
    state-reached = (are.reached s).0 (node-contains states (n + 1) s node)

    pub state-low : 1 ≤ s.piece
    state-low = reached-low pieces room s state-reached

    -- what follows the state stands at a node
    pub next-node : (t : State N) (m : Mark) → Step pieces room s m t → (v : ℕ) × IsNode states v t
    next-node t m step = contains-node states t ((are.reached t).1 (next_reached pieces room s t m state-reached step))

    -- an arc from the state is the step with its mark
    arc-from : (e : GraphArc) → IsStepArc pieces room states e → e.tail ≡ n + 1 → (t : State N) × IsNode states e.head t × Step pieces room s e.mark t
    arc-from e is tail =
        let same : is.from ≡ s = node-same states (n + 1) is.from s (subst (λ (v : ℕ). IsNode states v is.from) tail is.tail_at) node in
        (is.to, is.head_at, subst (λ (z : State N). Step pieces room z e.mark is.to) same is.step)

    -- one more step, if there is one
    append-step : (m : Mark) (P : GraphArc → Type 0) (arcs new : List GraphArc) → AllPairs ArcBefore arcs → ((e : GraphArc) → Contains arcs e ↔ (IsStepArc pieces room states e × P e)) → ((e : GraphArc) → Contains arcs e → (t : State N) (arc : GraphArc) → Step pieces room s m t → IsNode states arc.head t → arc.tail ≡ n + 1 → ArcBefore e arc) → ((t : State N) × Step pieces room s m t × IsArcPushed states n m t arcs new) ⊎ (((t : State N) → Step pieces room s m t → ⊥) × (new ≡ arcs)) → AllPairs ArcBefore new × ((e : GraphArc) → Contains new e ↔ (IsStepArc pieces room states e × (P e ⊎ ((e.tail ≡ n + 1) × (e.mark ≡ m)))))
    append-step m P arcs new up exact before =
        ⊎_elim
        (λ w.
        let t = w.0 in
        let arc = w.2.arc in
        let is : IsStepArc pieces room states arc = record {
          from = s;
          to = t;
          tail_at = subst (λ (v : ℕ). IsNode states v s) (sym w.2.tail_is) node;
          head_at = w.2.head_at;
          step = subst (λ (x : Mark). Step pieces room s x t) (sym w.2.mark_is) w.1;
        } in
        rw w.2.pushed (
          all_pairs_push ArcBefore arcs arc up (λ k d lt. before (get_or arcs k d) (Contains-get_or arcs k d lt) t arc w.1 w.2.head_at w.2.tail_is),
          (λ e. (
            λ h. ⊎_elim
                (λ early. let old = (exact e).0 early in (old.0, inl old.1))
                (λ late. subst (λ (x : GraphArc). IsStepArc pieces room states x × (P x ⊎ ((x.tail ≡ n + 1) × (x.mark ≡ m)))) late (is, inr (w.2.tail_is, w.2.mark_is)))
                (Contains-push_cases arcs arc e h),
            λ h. ⊎_elim
                (λ p. Contains-append_left arcs (arc ∷ []) e ((exact e).1 (h.0, p)))
                (λ here.
                let from = arc-from e h.0 here.0 in
                let to : from.0 ≡ t = step-one s from.0 t m (subst (λ (x : Mark). Step pieces room s x from.0) here.1 from.2) w.1 in
                let head : e.head ≡ arc.head = node-one states are.ordered e.head arc.head t (subst (λ (z : State N). IsNode states e.head z) to from.1) w.2.head_at in
                let tail : e.tail ≡ arc.tail = here.0 ∙ sym w.2.tail_is in
                let mark : e.mark ≡ arc.mark = here.1 ∙ sym w.2.mark_is in
                let same : e ≡ arc = (λ i. record { tail = tail i; head = head i; mark = mark i }) in
                subst (λ (x : GraphArc). Contains (arcs ++ arc ∷ []) x) (sym same) (Contains-push arcs arc))
                h.1,
          )),
        ))
        (λ w. rw w.1 (
          up,
          (λ e. (
            λ h. let old = (exact e).0 h in (old.0, inl old.1),
            λ h. ⊎_elim
                (λ p. (exact e).1 (h.0, p))
                (λ here. let from = arc-from e h.0 here.0 in absurd (w.0 from.0 (subst (λ (x : Mark). Step pieces room s x from.0) here.1 from.2)))
                h.1,
          )),
        ))

    -- a skip leads past a take
    skip-past : (t u : State N) (p : ℕ) → Step pieces room s (Carries p) t → Step pieces room s Loss u → StateBefore t u
    skip-past t u p take skip =
        let same : t.piece ≡ s.piece = ap (λ (z : State N). z.piece) take.4 in
        ⊎_elim
        (λ w. let up : u.piece ≡ s.piece + 1 = ap (λ (z : State N). z.piece) w.1 in before-piece t u (omega arith))
        (λ w. let up : u.piece ≡ (target pieces room).piece = ap (λ (z : State N). z.piece) w.1 in
        before-piece t u (omega (arith, w.0, state-low, target-piece pieces room (omega (arith, w.0, state-low)))))
        skip

    -- the arcs of one more state
    pub arcs-more : (arcs mid new : List GraphArc) → ArcsSoFar states n arcs → AppendsStep pieces room states n take_mark arcs mid → AppendsStep pieces room states n skip_mark mid new → ArcsSoFar states (n + 1) new
    arcs-more arcs mid new old takes skips =
        let first = append-step (Carries s.piece) (λ e. e.tail ≤ n) arcs mid old.ordered old.exact
        (λ e h t arc step head tail. let low = ((old.exact e).0 h).1 in inl (omega arith))
        (takes s node) in
        let second = append-step Loss (λ e. (e.tail ≤ n) ⊎ ((e.tail ≡ n + 1) × (e.mark ≡ Carries s.piece))) mid new first.0 first.1
        (λ e h u arc step head tail.
        let w = (first.1 e).0 h in
        ⊎_elim
        (λ low. inl (omega arith))
        (λ here.
        let from = arc-from e w.0 here.0 in
        let take : Step pieces room s (Carries s.piece) from.0 = subst (λ (x : Mark). Step pieces room s x from.0) here.1 from.2 in
        let same : e.tail ≡ arc.tail = here.0 ∙ sym tail in
        inr (same, inl (node-up states are.ordered e.head arc.head from.0 u from.1 head (skip-past from.0 u s.piece take step))))
        w.1)
        (skips s node) in
        record {
          ordered = second.0;
          exact = λ e. (
            λ h. let w = (second.1 e).0 h in (w.0, ⊎_elim (⊎_elim (λ low. omega arith) (λ here. omega (arith, here.0))) (λ here. omega (arith, here.0)) w.1),
            λ h. (second.1 e).1 (
              h.0,
              ⊎_elim
                  (λ low. inl (inl (omega arith)))
                  (λ high.
                  let tail : e.tail ≡ n + 1 = omega (arith, h.1) in
                  let from = arc-from e h.0 tail in
                  ⊎_elim (λ carries. inl (inr (tail, carries))) (λ loss. inr (tail, loss)) (step-mark s from.0 e.mark from.2))
                  (cases_lt e.tail (n + 1)),
            ),
          );
        }

  -- in the end these are all arcs
  pub arcs-all : (states : List (State N)) (n : ℕ) (arcs : List GraphArc) → AreStates pieces room states → length states ≤ n → ArcsSoFar states n arcs → IsLevels pieces room states arcs
  arcs-all states n arcs are all so_far =
      record {
        states_ordered = are.ordered;
        states_reached = are.reached;
        arcs_ordered = so_far.ordered;
        arcs_step = λ e. (
          λ h. ((so_far.exact e).0 h).0,
          λ is. let high = is.tail_at.1 in (so_far.exact e).1 (is, omega arith),
        );
      }

-- the state at a node
pub node-at : {N : ℕ} (states : List (State N)) (i : ℕ) → i < length states → (s : State N) × IsNode states (i + 1) s
node-at [] i lt = absurd (omega arith)
node-at (s ∷ states) i lt =
    let same : i + 1 - 1 ≡ i = omega arith in
    let there : get_or (s ∷ states) i (get_or (s ∷ states) i s) ≡ get_or (s ∷ states) i s = get_or_default (s ∷ states) i (get_or (s ∷ states) i s) s lt in
    (get_or (s ∷ states) i s, (omega arith, omega arith, subst (λ (n : ℕ). get_or (s ∷ states) n (get_or (s ∷ states) i s) ≡ get_or (s ∷ states) i s) (sym same) there))
