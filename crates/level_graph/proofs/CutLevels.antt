-- The level graph of padded weights is that of the weights cut to their places, with its labels padded.
use Rattle.std.proofs.Common.{◌≡◌, ℕ, zero, suc, ◌+◌, ◌-◌, ◌<◌, ◌≤◌, List, [], ◌∷◌, length, get_or, take, map, refl, sym, ap, ◌∙◌, subst, inl, inr, ⊎_elim, arith}
use Rattle.std.specs.Prelude.{All, Contains}
use Rattle.std.specs.Ordering.{nat_cmp, ordering_then}
use Rattle.std.specs.declared.cmp.Ordering.{Ordering}
use Rattle.std.proofs.lemmas.List.{get_or-map, get_or_default, length-map, take-replicate}
use Rattle.std.proofs.lemmas.List.Elements.{All-map, Contains-get_or}
use Rattle.weight_vec.specs.Weight.{AtMost, plus}
use Rattle.weight_vec.proofs.Places.{get_or-zeros}
use Rattle.label_graph.specs.declared.parts.GraphArc.{GraphArc}
use Rattle.label_graph.specs.declared.parts.Piece.{Piece}
use Rattle.label_graph.specs.declared.parts.Mark.{Mark}
use Rattle.label_graph.specs.declared.parts.Mark.TheVariants.{Loss, Piece as Carries}
use Rattle.label_graph.specs.Graph.{GraphValue, piece_weight}
use Rattle.label_graph.specs.Cuts.{IsPadded, cut_piece, cut_labels}
use Rattle.level_graph.specs.declared.states.State.{State}
use Rattle.level_graph.specs.Levels.{IsPieceList, StateBefore, state_cmp, Step, ReachedIn, IsReached, IsNode, IsStepArc, IsLevels, IsLevelGraph, piece_copies, source, target}
use Rattle.level_graph.specs.LevelLaws.{AreWeighed, CutsKeepLevel}
use Rattle.level_graph.proofs.Members.{contains_map, from_map}
use Rattle.level_graph.proofs.Reached.{reached-low, next_reached}
use Rattle.level_graph.proofs.UsedWeights.{weight-holds, used-holds, used-sized}
use Rattle.level_graph.proofs.CutWeights.{take-nothing, take-plus, plus-padded, fits-cut, cut-fits, cut-one, cmp-cut}

-- the state with the first n places of the weight that it uses
abbrev pub cut_state : {N : ℕ} → (n : ℕ) → State N → State n
cut_state n s = record { piece = s.piece; copies = s.copies; used = take n s.used }

module _ {N : ℕ} (n : ℕ) (le : n ≤ N) (pieces : List (Piece N)) (room : List ℕ) where
  weight-cut : (p : ℕ) → piece_weight (map (cut_piece n) pieces) p ≡ take n (piece_weight pieces p)
  weight-cut p = at pieces (p - 1)
    where
      at : (ps : List (Piece N)) (k : ℕ) → get_or (map (λ (q : Piece n). q.weight) (map (cut_piece n) ps)) k [] ≡ take n (get_or (map (λ (q : Piece N). q.weight) ps) k [])
      at [] k = sym (take-nothing n [] refl)
      at (q ∷ ps) zero = refl
      at (q ∷ ps) (suc k) = at ps k

  copies-cut : (p : ℕ) → piece_copies (map (cut_piece n) pieces) p ≡ piece_copies pieces p
  copies-cut p = at pieces (p - 1)
    where
      at : (ps : List (Piece N)) (k : ℕ) → get_or (map (λ (q : Piece n). q.copies) (map (cut_piece n) ps)) k 0 ≡ get_or (map (λ (q : Piece N). q.copies) ps) k 0
      at [] k = refl
      at (q ∷ ps) zero = refl
      at (q ∷ ps) (suc k) = at ps k

  length-cut : length (map (cut_piece n) pieces) ≡ length pieces
  length-cut = length-map pieces (cut_piece n)

  source-cut : source n ≡ cut_state n (source N)
  source-cut = λ i. record { piece = 1; copies = 0; used = (sym (take-replicate n N 0 le)) i }

  target-cut : target (map (cut_piece n) pieces) (take n room) ≡ cut_state n (target pieces room)
  target-cut = at pieces
    where
      at : (ps : List (Piece N)) → target (map (cut_piece n) ps) (take n room) ≡ cut_state n (target ps room)
      at [] = source-cut
      at (q ∷ ps) = λ i. record { piece = ap (λ (k : ℕ). suc k + 1) (length-map ps (cut_piece n)) i; copies = 0; used = take n room }

  -- the weight after a take
  take-cut : (r : State N) → plus (take n r.used) (piece_weight (map (cut_piece n) pieces) r.piece) ≡ take n (plus r.used (piece_weight pieces r.piece))
  take-cut r = ap (plus (take n r.used)) (weight-cut r.piece) ∙ sym (take-plus n r.used (piece_weight pieces r.piece))

  -- a step between states is a step between their cuts
  step-cut : (r s : State N) (m : Mark) → Step pieces room r m s → Step (map (cut_piece n) pieces) (take n room) (cut_state n r) m (cut_state n s)
  step-cut r s (Carries p) step = (
    step.0,
    omega (arith, step.1, length-cut),
    omega (arith, step.2, copies-cut r.piece),
    subst (λ (x : List ℕ). AtMost x (take n room)) (sym (take-cut r)) (fits-cut n (plus r.used (piece_weight pieces r.piece)) room step.3),
    ap (cut_state n) step.4 ∙ (λ i. record { piece = r.piece; copies = r.copies + 1; used = (sym (take-cut r)) i }),
  )
  step-cut r s Loss step =
      ⊎_elim
      (λ w. inl (omega (arith, w.0, length-cut), ap (cut_state n) w.1))
      (λ w. inr (w.0 ∙ sym length-cut, ap (cut_state n) w.1 ∙ sym target-cut))
      step

  reached-cut_at : (k : ℕ) (s : State N) → ReachedIn pieces room k s → ReachedIn (map (cut_piece n) pieces) (take n room) k (cut_state n s)
  reached-cut_at zero s h = ap (cut_state n) h ∙ sym source-cut
  reached-cut_at (suc k) s h = (cut_state n h.0, reached-cut_at k h.0 h.1, (h.2.0, step-cut h.0 s h.2.0 h.2.1))

  reached-cut : (s : State N) → IsReached pieces room s → IsReached (map (cut_piece n) pieces) (take n room) (cut_state n s)
  reached-cut s h = (h.0, reached-cut_at h.0 s h.1)

  module _ (weighed : AreWeighed pieces room) (weights : All (λ (q : Piece N). IsPadded n q.weight) pieces) (full : IsPadded n room) where
    used-padded : (s : State N) → IsReached pieces room s → IsPadded n s.used
    used-padded = used-holds pieces room (IsPadded n) (λ d low. get_or-zeros N d) full weights (λ x y h k. plus-padded n x y h k)

    -- a step from the cut of a state leads to the cut of a state to which a step leads
    step-lift : (r : State N) (m : Mark) (t : State n) → 1 ≤ r.piece → IsPadded n r.used → Step (map (cut_piece n) pieces) (take n room) (cut_state n r) m t → (s : State N) × Step pieces room r m s × (cut_state n s ≡ t)
    step-lift r (Carries p) t low padded step =
        let known : r.piece ≤ length pieces = omega (arith, step.1, length-cut) in
        let weighs : IsPadded n (piece_weight pieces r.piece) = weight-holds (IsPadded n) pieces weights r.piece low known in
        let fits : AtMost (take n (plus r.used (piece_weight pieces r.piece))) (take n room) = subst (λ (x : List ℕ). AtMost x (take n room)) (take-cut r) step.3 in
        let made : State N = record { piece = r.piece; copies = r.copies + 1; used = plus r.used (piece_weight pieces r.piece) } in (
          made,
          (
            step.0,
            known,
            omega (arith, step.2, copies-cut r.piece),
            cut-fits n (plus r.used (piece_weight pieces r.piece)) room (plus-padded n r.used (piece_weight pieces r.piece) padded weighs) fits,
            refl,
          ),
          (λ i. record { piece = r.piece; copies = r.copies + 1; used = (sym (take-cut r)) i }) ∙ sym step.4,
        )
    step-lift r Loss t low padded step =
        ⊎_elim
        (λ w. (record { piece = r.piece + 1; copies = 0; used = r.used }, inl (omega (arith, w.0, length-cut), refl), sym w.1))
        (λ w. (target pieces room, inr (w.0 ∙ length-cut, refl), sym target-cut ∙ sym w.1))
        step

    reached-lift_at : (k : ℕ) (t : State n) → ReachedIn (map (cut_piece n) pieces) (take n room) k t → (s : State N) × ReachedIn pieces room k s × (cut_state n s ≡ t)
    reached-lift_at zero t h = (source N, refl, sym source-cut ∙ sym h)
    reached-lift_at (suc k) t h =
        let r = reached-lift_at k h.0 h.1 in
        let next = step-lift r.0 h.2.0 t (reached-low pieces room r.0 (k, r.1)) (used-padded r.0 (k, r.1)) (subst (λ (z : State n). Step (map (cut_piece n) pieces) (take n room) z h.2.0 t) (sym r.2) h.2.1) in
        (next.0, (r.0, r.1, (h.2.0, next.1)), next.2)

    -- a state with the cut of a state that is reached is that state
    state-one : (s t : State N) → IsReached pieces room s → IsReached pieces room t → cut_state n s ≡ cut_state n t → s ≡ t
    state-one s t first second same =
        let used : s.used ≡ t.used = cut-one n s.used t.used (used-sized pieces room weighed s first ∙ sym (used-sized pieces room weighed t second)) (used-padded s first) (used-padded t second) (ap (λ (z : State n). z.used) same) in
        λ i. record { piece = ap (λ (z : State n). z.piece) same i; copies = ap (λ (z : State n). z.copies) same i; used = used i }

    before-cut : (s t : State N) → IsReached pieces room s → IsReached pieces room t → StateBefore s t → StateBefore (cut_state n s) (cut_state n t)
    before-cut s t first second before =
        let sized : length s.used ≡ length t.used = used-sized pieces room weighed s first ∙ sym (used-sized pieces room weighed t second) in
        let same : state_cmp (cut_state n s) (cut_state n t) ≡ state_cmp s t = ap (λ (o : Ordering). ordering_then (nat_cmp s.piece t.piece) (ordering_then (nat_cmp s.copies t.copies) o)) (cmp-cut n s.used t.used sized (used-padded s first) (used-padded t second)) in
        same ∙ before

    module _ (states : List (State N)) (arcs : List GraphArc) (are : IsLevels pieces room states arcs) where
      length-states : length (map (cut_state n) states) ≡ length states
      length-states = length-map states (cut_state n)

      reached-at : (i : ℕ) (d : State N) → i < length states → IsReached pieces room (get_or states i d)
      reached-at i d lt = (are.states_reached (get_or states i d)).0 (Contains-get_or states i d lt)

      node-cut : (v : ℕ) (s : State N) → IsNode states v s → IsNode (map (cut_state n) states) v (cut_state n s)
      node-cut v s node =
          let lt : v - 1 < length states = omega (arith, node.0, node.1) in
          (node.0, omega (arith, node.1, length-states), get_or-map (cut_state n) states (v - 1) s (cut_state n s) lt ∙ ap (cut_state n) node.2)

      node-lift : (v : ℕ) (t : State n) → IsNode (map (cut_state n) states) v t → (s : State N) × IsNode states v s × IsReached pieces room s × (cut_state n s ≡ t)
      node-lift v t node =
          let lt : v - 1 < length states = omega (arith, node.0, node.1, length-states) in
          let s = get_or states (v - 1) (source N) in
          (s, (node.0, omega (arith, node.1, length-states), get_or_default states (v - 1) s (source N) lt), reached-at (v - 1) (source N) lt, sym (get_or-map (cut_state n) states (v - 1) (source N) t lt) ∙ node.2)

      arc-cut : (e : GraphArc) → IsStepArc pieces room states e → IsStepArc (map (cut_piece n) pieces) (take n room) (map (cut_state n) states) e
      arc-cut e is =
          record {
            from = cut_state n is.from;
            to = cut_state n is.to;
            tail_at = node-cut e.tail is.from is.tail_at;
            head_at = node-cut e.head is.to is.head_at;
            step = step-cut is.from is.to e.mark is.step;
          }

      arc-lift : (e : GraphArc) → IsStepArc (map (cut_piece n) pieces) (take n room) (map (cut_state n) states) e → IsStepArc pieces room states e
      arc-lift e is =
          let from = node-lift e.tail is.from is.tail_at in
          let to = node-lift e.head is.to is.head_at in
          let next = step-lift from.0 e.mark is.to (reached-low pieces room from.0 from.2) (used-padded from.0 from.2) (subst (λ (z : State n). Step (map (cut_piece n) pieces) (take n room) z e.mark is.to) (sym from.3) is.step) in
          let same : next.0 ≡ to.0 = state-one next.0 to.0 (next_reached pieces room from.0 next.0 e.mark from.2 next.1) to.2 (next.2 ∙ sym to.3) in
          record {
            from = from.0;
            to = to.0;
            tail_at = from.1;
            head_at = to.1;
            step = subst (λ (z : State N). Step pieces room from.0 e.mark z) same next.1;
          }

      pub levels-cut : IsLevels (map (cut_piece n) pieces) (take n room) (map (cut_state n) states) arcs
      levels-cut =
          record {
            states_ordered = λ i j d lt in_range.
                let there : j < length states = omega (arith, in_range, length-states) in
                let here : i < length states = omega arith in
                let first = get_or-map (cut_state n) states i (source N) d here in
                let second = get_or-map (cut_state n) states j (source N) d there in
                subst (λ (z : State n). StateBefore z (get_or (map (cut_state n) states) j d)) (sym first)
                (subst (λ (z : State n). StateBefore (cut_state n (get_or states i (source N))) z) (sym second)
                (before-cut (get_or states i (source N)) (get_or states j (source N)) (reached-at i (source N) here) (reached-at j (source N) there) (are.states_ordered i j (source N) lt there)));
            states_reached = λ t. (
              λ m.
                  let from = from_map (cut_state n) states t m in
                  subst (IsReached (map (cut_piece n) pieces) (take n room)) from.2 (reached-cut from.0 ((are.states_reached from.0).0 from.1)),
              λ h.
                  let s = reached-lift_at h.0 t h.1 in
                  subst (Contains (map (cut_state n) states)) s.2 (contains_map (cut_state n) states s.0 ((are.states_reached s.0).1 (h.0, s.1))),
            );
            arcs_ordered = are.arcs_ordered;
            arcs_step = λ e. (λ m. arc-cut e ((are.arcs_step e).0 m), λ is. (are.arcs_step e).1 (arc-lift e is));
          }

      pub labels-padded : All (IsPadded n) (map (λ (s : State N). s.used) states)
      labels-padded = All-map (IsPadded n) (λ (s : State N). s.used) states (λ k d lt. used-padded (get_or states k d) (reached-at k d lt))

labels-cut : {N : ℕ} (n : ℕ) (states : List (State N)) → cut_labels n (map (λ (s : State N). s.used) states) ≡ map (λ (s : State n). s.used) (map (cut_state n) states)
labels-cut n [] = refl
labels-cut n (s ∷ states) = ap (λ (ls : List (List ℕ)). take n s.used ∷ ls) (labels-cut n states)

pub cuts_keep_level : (N n : ℕ) (pieces : List (Piece N)) (room : List ℕ) (g : GraphValue N) → n ≤ N → IsPieceList pieces room → AreWeighed pieces room → All (λ q. IsPadded n q.weight) pieces → IsPadded n room → IsLevelGraph pieces room g → CutsKeepLevel N n pieces room g
cuts_keep_level N n pieces room g le listed weighed weights full is =
    record {
      padded = record {
        pieces = subst (λ (ps : List (Piece N)). All (λ q. IsPadded n q.weight) ps) (sym is.pieces_are) weights;
        labels = subst (All (IsPadded n)) (sym is.labels_are) (labels-padded n le pieces room weighed weights full is.states g.arcs is.levels);
      };
      cut = record {
        states = map (cut_state n) is.states;
        levels = levels-cut n le pieces room weighed weights full is.states g.arcs is.levels;
        pieces_are = ap (map (cut_piece n)) is.pieces_are;
        labels_are = ap (cut_labels n) is.labels_are ∙ labels-cut n is.states;
      };
    }
