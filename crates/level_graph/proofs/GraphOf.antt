-- The states and their arcs make a graph.
use Rattle.std.proofs.Common.{◌≡◌, ℕ, zero, suc, ◌+◌, ◌-◌, ◌<◌, ◌≤◌, List, [], ◌∷◌, length, get_or, map, refl, sym, ap, ◌∙◌, subst, inl, inr, ⊎_elim, arith}
use Rattle.std.specs.Prelude.{Contains, All}
use Rattle.std.proofs.lemmas.Bool.{cases_lt}
use Rattle.std.proofs.lemmas.List.{get_or-map}
use Rattle.std.proofs.lemmas.List.Elements.{Contains-get_or}
use Rattle.weight_vec.specs.Weight.{AtMost, IsInRange, IsZero, plus}
use Rattle.weight_vec.proofs.Places.{get_or-plus, get_or-zeros}
use Rattle.label_graph.specs.declared.parts.GraphArc.{GraphArc}
use Rattle.label_graph.specs.declared.parts.Piece.{Piece}
use Rattle.label_graph.specs.declared.parts.Mark.{Mark}
use Rattle.label_graph.specs.declared.parts.Mark.TheVariants.{Loss, Piece as Carries}
use Rattle.label_graph.specs.Graph.{IsGraph, IsKnown, label_of, mark_weight}
use Rattle.level_graph.specs.declared.states.State.{State}
use Rattle.level_graph.specs.Levels.{StateBefore, Step, ReachedIn, IsReached, IsNode, IsStepArc, IsLevels, source, target}
use Rattle.level_graph.proofs.StateOrder.{before-cases, before-piece_le}
use Rattle.level_graph.proofs.Reached.{next_reached, source_reached, reached-low, reached-end, target-piece}
use Rattle.level_graph.proofs.Arcs.{never_before_itself, nodes-before, node-up, node-contains, contains-node, node-at, step-up}

module _ {N : ℕ} (pieces : List (Piece N)) (room : List ℕ) where
  target-fits : (ps : List (Piece N)) → (d : ℕ) → get_or (target ps room).used d 0 ≤ get_or room d 0
  target-fits [] d = omega (arith, get_or-zeros N d)
  target-fits (p ∷ ps) d = omega arith

  step-fits : (r s : State N) (m : Mark) → AtMost r.used room → Step pieces room r m s → AtMost s.used room
  step-fits r s (Carries p) fits step = subst (λ (x : List ℕ). AtMost x room) (sym (ap (λ (z : State N). z.used) step.4)) step.3
  step-fits r s Loss fits step =
      ⊎_elim
      (λ w. subst (λ (x : List ℕ). AtMost x room) (sym (ap (λ (z : State N). z.used) w.1)) fits)
      (λ w. subst (λ (x : List ℕ). AtMost x room) (sym (ap (λ (z : State N). z.used) w.1)) (target-fits pieces))
      step

  reached-fits_at : (n : ℕ) (s : State N) → ReachedIn pieces room n s → AtMost s.used room
  reached-fits_at zero s h = subst (λ (x : List ℕ). AtMost x room) (sym (ap (λ (z : State N). z.used) h)) (λ d. omega (arith, get_or-zeros N d))
  reached-fits_at (suc n) s h = step-fits h.0 s h.2.0 (reached-fits_at n h.0 h.1) h.2.1

  -- what is used fits
  pub reached-fits : (s : State N) → IsReached pieces room s → AtMost s.used room
  reached-fits s h = reached-fits_at h.0 s h.1

  -- no step leads to the start of the first piece
  step-not_first : (r s : State N) (m : Mark) → 1 ≤ r.piece → Step pieces room r m s → s.piece ≡ 1 → s.copies ≡ 0 → ⊥
  step-not_first r s (Carries p) low step first none = let more : s.copies ≡ r.copies + 1 = ap (λ (z : State N). z.copies) step.4 in omega arith
  step-not_first r s Loss low step first none =
      ⊎_elim
      (λ w. let up : s.piece ≡ r.piece + 1 = ap (λ (z : State N). z.piece) w.1 in omega arith)
      (λ w. let up : s.piece ≡ (target pieces room).piece = ap (λ (z : State N). z.piece) w.1 in omega (arith, w.0, target-piece pieces room (omega (arith, w.0))))
      step

  first-source_at : (n : ℕ) (s : State N) → ReachedIn pieces room n s → s.piece ≡ 1 → s.copies ≡ 0 → s ≡ source N
  first-source_at zero s h first none = h
  first-source_at (suc n) s h first none = absurd (step-not_first h.0 s h.2.0 (reached-low pieces room h.0 (n, h.1)) h.2.1 first none)

  -- nothing comes before the source
  pub source-first : (s : State N) → IsReached pieces room s → StateBefore s (source N) → ⊥
  source-first s h before =
      let low = reached-low pieces room s h in
      let le = before-piece_le s (source N) before in
      let first : s.piece ≡ 1 = omega arith in
      ⊎_elim
      (λ lt. omega arith)
      (λ w. never_before_itself (source N) (subst (λ (z : State N). StateBefore z (source N)) (first-source_at h.0 s h.1 first w.0) before))
      (before-cases s (source N) first before)

  -- nothing comes after the target
  pub target-last : (s : State N) → IsReached pieces room s → StateBefore (target pieces room) s → ⊥
  target-last s h before =
      let low = reached-low pieces room s h in
      ⊎_elim
      (λ le. let up = before-piece_le (target pieces room) s before in omega (arith, target-piece pieces room (omega arith)))
      (λ same. never_before_itself (target pieces room) (subst (λ (z : State N). StateBefore (target pieces room) z) same before))
      (reached-end pieces room s h)

  module _ (states : List (State N)) (arcs : List GraphArc) (are : IsLevels pieces room states arcs) where
    pub node-reached : (v : ℕ) (s : State N) → IsNode states v s → IsReached pieces room s
    node-reached v s node = (are.states_reached s).0 (node-contains states v s node)

    pub node-of : (s : State N) → IsReached pieces room s → (v : ℕ) × IsNode states v s
    node-of s h = contains-node states s ((are.states_reached s).1 h)

    pub state-of : (v : ℕ) → 1 ≤ v → v ≤ length states → (s : State N) × IsNode states v s
    state-of v low high =
        let at = node-at states (v - 1) (omega arith) in
        (at.0, subst (λ (n : ℕ). IsNode states n at.0) (omega arith) at.1)

    -- a step is an arc
    pub step-arc : (v w : ℕ) (s t : State N) (m : Mark) → IsNode states v s → IsNode states w t → Step pieces room s m t → Contains arcs (record { tail = v; head = w; mark = m })
    step-arc v w s t m a b step = (are.arcs_step (record { tail = v; head = w; mark = m })).1 (record { from = s; to = t; tail_at = a; head_at = b; step = step })

    pub has_source : 1 ≤ length states
    has_source = let node = node-of (source N) (source_reached pieces room) in omega (arith, node.1.0, node.1.1)

    labels : List (List ℕ)
    labels = map (λ (s : State N). s.used) states

    label-node : (v : ℕ) (s : State N) → IsNode states v s → label_of (map (λ (s : State N). s.used) states) v ≡ s.used
    label-node v s node =
        let lt : v - 1 < length states = omega (arith, node.0, node.1) in
        get_or-map (λ (s : State N). s.used) states (v - 1) s [] lt ∙ ap (λ (s : State N). s.used) node.2

    length-labels : (ss : List (State N)) → length (map (λ (s : State N). s.used) ss) ≡ length ss
    length-labels [] = refl
    length-labels (s ∷ ss) = ap suc (length-labels ss)

    -- a step raises the weight by what its mark weighs at most
    step-rises : (s t : State N) (m : Mark) → IsReached pieces room s → Step pieces room s m t → AtMost (plus s.used (mark_weight pieces m)) t.used
    step-rises s t (Carries p) h step =
        let same : t.used ≡ plus s.used (mark_weight pieces (Carries s.piece)) = ap (λ (z : State N). z.used) step.4 in
        subst (λ (q : ℕ). AtMost (plus s.used (mark_weight pieces (Carries q))) t.used) (sym step.0) (subst (λ (x : List ℕ). AtMost (plus s.used (mark_weight pieces (Carries s.piece))) x) (sym same) (λ d. omega arith))
    step-rises s t Loss h step =
        ⊎_elim
        (λ w. subst (λ (x : List ℕ). AtMost (plus s.used []) x) (sym (ap (λ (z : State N). z.used) w.1)) (λ d. omega (arith, get_or-plus s.used [] d)))
        (λ w. subst (λ (x : List ℕ). AtMost (plus s.used []) x) (sym (ap (λ (z : State N). z.used) w.1)) (to_target pieces (λ d. reached-fits s h d) (omega (arith, w.0, reached-low pieces room s h))))
        step
      where
        to_target : (ps : List (Piece N)) → AtMost s.used room → 1 ≤ length ps → AtMost (plus s.used []) (target ps room).used
        to_target [] fits some d = absurd (omega arith)
        to_target (p ∷ ps) fits some d = omega (arith, fits d, get_or-plus s.used [] d)

    step-known : (s t : State N) (m : Mark) → IsReached pieces room s → Step pieces room s m t → IsKnown pieces m
    step-known s t (Carries p) h step = (omega (arith, step.0, reached-low pieces room s h), omega (arith, step.0, step.1))
    step-known s t Loss h step = tt

    leaves : (v : ℕ) → 1 ≤ v → v < length states → (e : GraphArc) × Contains arcs e × (e.tail ≡ v)
    leaves v low high =
        let here = state-of v low (omega arith) in
        let s = here.0 in
        let reached = node-reached v s here.1 in
        let arc : (t : State N) → Step pieces room s Loss t → (e : GraphArc) × Contains arcs e × (e.tail ≡ v) = λ t step.
        let there = node-of t (next_reached pieces room s t Loss reached step) in
        (record { tail = v; head = there.0; mark = Loss }, step-arc v there.0 s t Loss here.1 there.1 step, refl) in
        ⊎_elim
        (λ le. ⊎_elim
        (λ lt. arc (record { piece = s.piece + 1; copies = 0; used = s.used }) (inl (lt, refl)))
        (λ ge. arc (target pieces room) (inr (omega arith, refl)))
        (cases_lt s.piece (length pieces)))
        (λ end.
        let last = state-of (length states) (omega arith) (omega arith) in
        let before : StateBefore s last.0 = nodes-before states are.states_ordered v (length states) s last.0 here.1 last.1 high in
        absurd (target-last last.0 (node-reached (length states) last.0 last.1) (subst (λ (z : State N). StateBefore z last.0) end before)))
        (reached-end pieces room s reached)

    enters_at : (n v : ℕ) (s : State N) → ReachedIn pieces room n s → IsNode states v s → 1 < v → (e : GraphArc) × Contains arcs e × (e.head ≡ v)
    enters_at zero v s h node low =
        let first = state-of 1 (omega arith) has_source in
        let before : StateBefore first.0 s = nodes-before states are.states_ordered 1 v first.0 s first.1 node low in
        absurd (source-first first.0 (node-reached 1 first.0 first.1) (subst (λ (z : State N). StateBefore first.0 z) h before))
    enters_at (suc n) v s h node low =
        let from = node-of h.0 (n, h.1) in
        (record { tail = from.0; head = v; mark = h.2.0 }, step-arc from.0 v h.0 s h.2.0 from.1 node h.2.1, refl)

    enters : (v : ℕ) → 1 < v → v ≤ length states → (e : GraphArc) × Contains arcs e × (e.head ≡ v)
    enters v low high =
        let here = state-of v (omega arith) high in
        let reached = node-reached v here.0 here.1 in
        enters_at reached.0 v here.0 reached.1 here.1 low

    pub graph_of : N ≤ 32 → All (λ l. length l ≡ N) (map (λ (s : State N). s.used) states) → All (λ l. IsInRange l) (map (λ (s : State N). s.used) states) → All (λ (q : Piece N). length q.weight ≡ N) pieces → All (λ (q : Piece N). IsInRange q.weight) pieces → All (λ (q : Piece N). IsZero q.weight → ⊥) pieces → IsGraph N (record { pieces = pieces; labels = map (λ (s : State N). s.used) states; arcs = arcs })
    graph_of small sized ranged pieces_sized pieces_ranged heavy =
        let whole = length-labels states in
        let arc : (i : ℕ) (d : GraphArc) → i < length arcs → IsStepArc pieces room states (get_or arcs i d) = λ i d lt. (are.arcs_step (get_or arcs i d)).0 (Contains-get_or arcs i d lt) in
        record {
          small = small;
          source = omega (arith, has_source);
          sized = sized;
          ranged = ranged;
          pieces_sized = pieces_sized;
          pieces_ranged = pieces_ranged;
          heavy = heavy;
          ordered = are.arcs_ordered;
          climbs = λ i d lt.
              let is = arc i d lt in
              let low = reached-low pieces room is.from (node-reached (get_or arcs i d).tail is.from is.tail_at) in
              (is.tail_at.0, node-up states are.states_ordered (get_or arcs i d).tail (get_or arcs i d).head is.from is.to is.tail_at is.head_at (step-up pieces room is.from is.to (get_or arcs i d).mark low is.step), omega (arith, is.head_at.1));
          known = λ i d lt. let is = arc i d lt in step-known is.from is.to (get_or arcs i d).mark (node-reached (get_or arcs i d).tail is.from is.tail_at) is.step;
          rises = λ i d lt.
              let is = arc i d lt in
              rw (label-node (get_or arcs i d).tail is.from is.tail_at, label-node (get_or arcs i d).head is.to is.head_at) (step-rises is.from is.to (get_or arcs i d).mark (node-reached (get_or arcs i d).tail is.from is.tail_at) is.step);
          leaves = λ v low high. leaves v low (omega arith);
          enters = λ v low high. enters v low (omega arith);
        }
