-- In a level graph, what the ways on from the states leave are the labels from the target.
use Rattle.std.proofs.Common.{◌≡◌, ℕ, zero, suc, ◌+◌, ◌-◌, ◌<◌, ◌≤◌, ◌⊎◌, List, [], ◌∷◌, length, get_or, map, refl, sym, ap, ◌∙◌, subst, inl, inr, ⊎_elim, arith}
use Rattle.std.proofs.lemmas.Bool.{cases_lt, cases_Bool, false≢true}
use Rattle.std.proofs.lemmas.List.{get_or-map, length-map}
use Rattle.weight_vec.specs.Weight.{minus, plus}
use Rattle.weight_vec.proofs.Places.{get_or-plus, get_or-minus, get_or-lower}
use Rattle.label_graph.specs.declared.parts.GraphArc.{GraphArc}
use Rattle.label_graph.specs.declared.parts.Piece.{Piece}
use Rattle.label_graph.specs.declared.parts.Mark.{Mark}
use Rattle.label_graph.specs.declared.parts.Mark.TheVariants.{Loss, Piece as Carries}
use Rattle.label_graph.specs.Graph.{GraphValue, IsPath, weight_in, mark_weight, piece_weight, label_of}
use Rattle.label_graph.specs.Heaviest.{IsGreatestWeight}
use Rattle.level_graph.specs.declared.states.State.{State}
use Rattle.level_graph.specs.Levels.{Step, IsNode, IsLevels, piece_copies}
use Rattle.level_graph.specs.inner.Layers.{at_most}
use Rattle.level_graph.proofs.Takes.{at_most-sound, at_most-complete}
use Rattle.level_graph.proofs.Arcs.{node-same, node-one}
use Rattle.level_graph.proofs.Reached.{next_reached, reached-end, reached-low, target-piece}
use Rattle.level_graph.proofs.GraphOf.{node-reached, node-of, state-of, step-arc}
use Rattle.level_graph.proofs.Leading.{target-node}
use Rattle.main_compress.specs.MainGraphs.{IsTargetLabel, AreTargetLabels}
use Rattle.lift_build.specs.inner.Rooms.{room_left}
use Rattle.lift_build.proofs.Takings.{min_cases}
use Rattle.lift_build.proofs.Lifts.{room-target, room-sized, room-within, room-both, room-only, skip-some, step-rises}

-- the level graph of these states and arcs
abbrev pub level_of : {N : ℕ} → List (Piece N) → List (State N) → List GraphArc → GraphValue N
level_of {N} pieces states arcs = record { pieces = pieces; labels = map (λ (s : State N). s.used) states; arcs = arcs }

module _ {N : ℕ} (pieces : List (Piece N)) (cap : List ℕ) where
  -- one more copy fits, or it does not
  pub take-or : (s : State N) → s.piece ≤ length pieces → ((t : State N) × Step pieces cap s (Carries s.piece) t) ⊎ ((t : State N) → Step pieces cap s (Carries s.piece) t → ⊥)
  take-or s low =
      let used = plus s.used (piece_weight pieces s.piece) in
      ⊎_elim
      (λ lt. ⊎_elim
      (λ fits. inl (record { piece = s.piece; copies = s.copies + 1; used = used }, (refl, low, lt, at_most-sound used cap fits, refl)))
      (λ heavy. inr (λ t step. false≢true (sym heavy ∙ at_most-complete used cap step.3)))
      (cases_Bool (at_most used cap)))
      (λ ge. inr (λ t step. omega (arith, step.2)))
      (cases_lt s.copies (piece_copies pieces s.piece))

  -- the labels from the target
  abbrev pub rooms : List (State N) → List (List ℕ)
  rooms states = map (room_left pieces cap) states

  pub rooms-label : (states : List (State N)) (v : ℕ) (s : State N) → IsNode states v s → label_of (rooms states) v ≡ room_left pieces cap s
  rooms-label states v s node =
      let lt : v - 1 < length states = omega (arith, node.0, node.1) in
      get_or-map (room_left pieces cap) states (v - 1) s [] lt ∙ ap (room_left pieces cap) node.2

  module _ (sized : length cap ≡ N) (states : List (State N)) (arcs : List GraphArc) (are : IsLevels pieces cap states arcs) where
    -- no way on weighs more
    path-most : (d : ℕ) (path : List GraphArc) (v b : ℕ) (s : State N) → IsNode states v s → IsPath arcs v b path → weight_in pieces d path + get_or (room_left pieces cap s) d 0 ≤ get_or cap d 0
    path-most d [] v b s node leads = omega (arith, room-within pieces cap sized s d)
    path-most d (e ∷ path) v b s node leads =
        let is = (are.arcs_step e).0 leads.0 in
        let from : is.from ≡ s = node-same states v is.from s (subst (λ (w : ℕ). IsNode states w is.from) leads.1 is.tail_at) node in
        let step : Step pieces cap s e.mark is.to = subst (λ (z : State N). Step pieces cap z e.mark is.to) from is.step in
        let rest : weight_in pieces d path + get_or (room_left pieces cap is.to) d 0 ≤ get_or cap d 0 = path-most d path e.head b is.to is.head_at leads.2 in
        let rises = step-rises pieces cap sized s is.to e.mark step d in
        omega (arith, get_or-plus (room_left pieces cap s) (mark_weight pieces e.mark) d)

    -- some way on weighs as much
    Attains : ℕ → ℕ → State N → Type 0
    Attains d v s = (path : List GraphArc) × IsPath arcs v (length states) path × (weight_in pieces d path + get_or (room_left pieces cap s) d 0 ≡ get_or cap d 0)

    attains-step : (d v : ℕ) (s t : State N) (m : Mark) → IsNode states v s → Step pieces cap s m t → ((w : ℕ) → IsNode states w t → Attains d w t) → get_or (room_left pieces cap s) d 0 + get_or (mark_weight pieces m) d 0 ≡ get_or (room_left pieces cap t) d 0 → Attains d v s
    unfolding Attains
    attains-step d v s t m node step rest same =
        let next = node-of pieces cap states arcs are t (next_reached pieces cap s t m (node-reached pieces cap states arcs are v s node) step) in
        let way = rest next.0 next.1 in
        let e : GraphArc = record { tail = v; head = next.0; mark = m } in
        (e ∷ way.0, (step-arc pieces cap states arcs are v next.0 s t m node next.1 step, refl, way.1), omega (arith, way.2))

    piece-next : (s t : State N) (m : ℕ) → 1 ≤ s.piece → length pieces + 1 - s.piece ≡ suc m → Step pieces cap s Loss t → length pieces + 1 - t.piece ≡ m
    piece-next s t m low here step =
        ⊎_elim
        (λ w. omega (arith, ap (λ (z : State N). z.piece) w.1))
        (λ w. omega (arith, w.0, ap (λ (z : State N). z.piece) w.1, target-piece pieces cap (omega (arith, w.0))))
        step

    attains-one : (d m : ℕ) → ((v : ℕ) (s : State N) → IsNode states v s → length pieces + 1 - s.piece ≡ m → Attains d v s) → (v : ℕ) (s : State N) → IsNode states v s → length pieces + 1 - s.piece ≡ suc m → ((t : State N) → Step pieces cap s (Carries s.piece) t → (w : ℕ) → IsNode states w t → Attains d w t) → Attains d v s
    attains-one d m rest v s node here takes =
        let low : s.piece ≤ length pieces = omega arith in
        let first = reached-low pieces cap s (node-reached pieces cap states arcs are v s node) in
        let skip = skip-some pieces cap s low in
        let skipped : (w : ℕ) → IsNode states w skip.0 → Attains d w skip.0 = λ w at. rest w skip.0 at (piece-next s skip.0 m first here skip.1) in
        let nothing : get_or (mark_weight pieces Loss) d 0 ≡ 0 = refl in
        ⊎_elim
        (λ take.
        let both = ap (λ (l : List ℕ). get_or l d 0) (room-both pieces cap sized s take.0 skip.0 s.piece take.1 skip.1) in
        let least = get_or-lower (room_left pieces cap skip.0) (minus (room_left pieces cap take.0) (piece_weight pieces s.piece)) d in
        let less = get_or-minus (room_left pieces cap take.0) (piece_weight pieces s.piece) d in
        let up = step-rises pieces cap sized s take.0 (Carries s.piece) take.1 d in
        let sum = get_or-plus (room_left pieces cap s) (piece_weight pieces s.piece) d in
        ⊎_elim
        (λ one. attains-step d v s skip.0 Loss node skip.1 skipped (omega arith))
        (λ two. attains-step d v s take.0 (Carries s.piece) node take.1 (takes take.0 take.1) (omega arith))
        (min_cases (get_or (room_left pieces cap skip.0) d 0) (get_or (minus (room_left pieces cap take.0) (piece_weight pieces s.piece)) d 0)))
        (λ never.
        let only = ap (λ (l : List ℕ). get_or l d 0) (room-only pieces cap sized s skip.0 never skip.1) in
        attains-step d v s skip.0 Loss node skip.1 skipped (omega arith))
        (take-or s low)

    attains-copies : (d m : ℕ) → ((v : ℕ) (s : State N) → IsNode states v s → length pieces + 1 - s.piece ≡ m → Attains d v s) → (n v : ℕ) (s : State N) → IsNode states v s → length pieces + 1 - s.piece ≡ suc m → piece_copies pieces s.piece - s.copies ≡ n → Attains d v s
    attains-copies d m rest zero v s node here left = attains-one d m rest v s node here (λ t step w at. absurd (omega (arith, step.2)))
    attains-copies d m rest (suc n) v s node here left =
        attains-one d m rest v s node here (λ t step w at.
        attains-copies d m rest n w t at
        (omega (arith, ap (λ (z : State N). z.piece) step.4))
        (omega (arith, ap (λ (z : State N). z.copies) step.4, ap (λ (z : State N). piece_copies pieces z.piece) step.4)))

    attains-at : (d m v : ℕ) (s : State N) → IsNode states v s → length pieces + 1 - s.piece ≡ m → Attains d v s
    unfolding Attains
    attains-at d zero v s node here =
        ⊎_elim
        (λ le. absurd (omega arith))
        (λ end.
        let there = target-node pieces cap states arcs are in
        let last : v ≡ length states = node-one states are.states_ordered v (length states) s node (subst (λ (z : State N). IsNode states (length states) z) (sym end) there) in
        let room : get_or (room_left pieces cap s) d 0 ≡ get_or cap d 0 = ap (λ (z : State N). get_or (room_left pieces cap z) d 0) end ∙ ap (λ (l : List ℕ). get_or l d 0) (room-target pieces cap) in
        ([], last, omega arith))
        (reached-end pieces cap s (node-reached pieces cap states arcs are v s node))
    attains-at d (suc m) v s node here = attains-copies d m (attains-at d m) (piece_copies pieces s.piece - s.copies) v s node here refl

    greatest : (d v : ℕ) (s : State N) → IsNode states v s → IsGreatestWeight (level_of pieces states arcs) v (length states) d (get_or cap d 0 - get_or (room_left pieces cap s) d 0)
    unfolding Attains
    greatest d v s node =
        let way = attains-at d (length pieces + 1 - s.piece) v s node refl in
        record {
          path = way.0;
          leads = way.1;
          weighs = omega (arith, way.2);
          most = λ other leads. omega (arith, path-most d other v (length states) s node leads);
        }

    pub are-targets : AreTargetLabels cap (level_of pieces states arcs) (rooms states)
    are-targets =
        let same : length (map (λ (s : State N). s.used) states) ≡ length states = length-map states (λ (s : State N). s.used) in
        record {
          count = length-map states (room_left pieces cap) ∙ sym same;
          each = λ v low high.
              let node = state-of pieces cap states arcs are v low (omega arith) in
              let s = node.0 in
              let here : room_left pieces cap s ≡ label_of (rooms states) v = sym (rooms-label states v s node.1) in
              let is : IsTargetLabel cap (level_of pieces states arcs) v (room_left pieces cap s) = record {
                sized = room-sized pieces cap sized s;
                left = λ d lt. record {
                  heaviest = get_or cap d 0 - get_or (room_left pieces cap s) d 0;
                  greatest = subst (λ (b : ℕ). IsGreatestWeight (level_of pieces states arcs) v b d (get_or cap d 0 - get_or (room_left pieces cap s) d 0)) (sym same) (greatest d v s node.1);
                  left = omega (arith, room-within pieces cap sized s d);
                };
              } in
              subst (λ (l : List ℕ). IsTargetLabel cap (level_of pieces states arcs) v l) here is;
        }
