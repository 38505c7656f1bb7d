-- Paths of joint levels: each state has a way from the source and on to the targets that it fits.
use Rattle.std.proofs.Common.{◌≡◌, ℕ, zero, suc, ◌+◌, ◌-◌, ◌^◌, ◌<◌, ◌≤◌, ◌⊎◌, ◌↔◌, List, [], ◌∷◌, ◌++◌, length, get_or, refl, sym, ap, ◌∙◌, subst, inl, inr, ⊎_elim, arith}
use Rattle.std.specs.Prelude.{Contains, All, AllPairs}
use Rattle.std.specs.List.Sorted.{IsStrictlySortedBy}
use Rattle.std.proofs.lemmas.Bool.{cases_lt}
use Rattle.std.proofs.lemmas.List.{get_or_default}
use Rattle.std.proofs.lemmas.List.Elements.{Contains-get_or}
use Rattle.arc_num.specs.declared.TheConstants.{MAX_TYPES}
use Rattle.weight_vec.specs.Weight.{AtMost, IsInRange, plus}
use Rattle.weight_vec.proofs.Places.{get_or-plus}
use Rattle.label_graph.specs.declared.parts.GraphArc.{GraphArc}
use Rattle.label_graph.specs.declared.parts.Piece.{Piece}
use Rattle.label_graph.specs.declared.parts.Mark.{Mark}
use Rattle.label_graph.specs.declared.parts.Mark.TheVariants.{Loss, Piece as Carries}
use Rattle.label_graph.specs.Graph.{IsPath, IsKnown, ArcBefore, weight_in, mark_weight, piece_weight}
use Rattle.label_graph.proofs.Paths.{IsPath-append}
use Rattle.joint_graph.specs.declared.states.State.{State}
use Rattle.joint_graph.specs.Numbers.{IsNumber}
use Rattle.joint_graph.specs.Joints.{JointValue, IsJoint, IsNode, ClimbsIn, IsType, IsReachable, HasWayOn, cap_at}
use Rattle.joint_graph.specs.JointLevels.{ArePieces, Step, ReachedIn, IsReached, IsStepArc, IsEndArc, state_cmp, source}
use Rattle.joint_graph.proofs.StateOrders.{state-total, step-before}
use Rattle.joint_graph.proofs.FoundStates.{reached-step, reached-piece, reached-fits, zeros-fit}
use Rattle.joint_graph.proofs.RankLemmas.{number-one, number-less}

module _ {N : ℕ} (pieces : List (Piece N)) (caps : List (List ℕ)) (states : List (State N)) (up : IsStrictlySortedBy state_cmp states) (reached : (s : State N) → Contains states s ↔ IsReached pieces caps s) (arcs : List GraphArc) (arcs_are : (e : GraphArc) → Contains arcs e ↔ (IsStepArc pieces caps states e ⊎ IsEndArc pieces caps states e)) where
  -- the node of a state
  pub node-of : (s : State N) → IsReached pieces caps s → (v : ℕ) × IsNumber states v s
  node-of s h =
      let at = (reached s).1 h in
      let same : at.0 + 1 - 1 ≡ at.0 = omega arith in
      (at.0 + 1, record { low = omega arith; high = omega (arith, at.1); here = λ d. ap (λ (k : ℕ). get_or states k d) same ∙ get_or_default states at.0 d s at.1 ∙ at.2 })

  -- the state at a node
  pub state-of : (v : ℕ) → 1 ≤ v → v ≤ length states → (s : State N) × IsNumber states v s × IsReached pieces caps s
  state-of v low high =
      let s = get_or states (v - 1) (source N) in
      let here : (d : State N) → get_or states (v - 1) d ≡ s = λ d. get_or_default states (v - 1) d (source N) (omega arith) in
      (s, record { low = low; high = high; here = here }, (reached s).0 (v - 1, omega arith, here s))

  pub step-path : (s t : State N) (m : Mark) (v w : ℕ) → IsNumber states v s → IsNumber states w t → Step pieces caps s m t → Contains arcs (record { tail = v; head = w; mark = m })
  step-path s t m v w one two step = (arcs_are (record { tail = v; head = w; mark = m })).1 (inl (record { from = s; to = t; tail_at = one; head_at = two; step = step }))

  pub end-path : (s : State N) (v t : ℕ) → IsNumber states v s → length pieces ≤ s.piece → IsType caps t → AtMost s.used (cap_at caps t) → Contains arcs (record { tail = v; head = length states + t; mark = Loss })
  end-path s v t one last is_type fits = (arcs_are (record { tail = v; head = length states + t; mark = Loss })).1 (inr (record { from = s; tail_at = one; last = last; bin_type = t; is_type = is_type; fits = fits; head_is = refl; mark_is = refl }))

  -- skips lead on to the target of a type that the state fits
  pub way-down : (fuel : ℕ) (s : State N) (v t : ℕ) → length pieces ≤ s.piece + fuel → IsReached pieces caps s → IsNumber states v s → IsType caps t → AtMost s.used (cap_at caps t) → (path : List GraphArc) × IsPath arcs v (length states + t) path
  way-down zero s v t near h number is_type fits = (record { tail = v; head = length states + t; mark = Loss } ∷ [], (end-path s v t number (omega arith) is_type fits, refl, refl))
  way-down (suc fuel) s v t near h number is_type fits =
      ⊎_elim
      (λ lt.
      let next : State N = record { piece = s.piece + 1; copies = 0; used = s.used } in
      let step : Step pieces caps s Loss next = (lt, refl) in
      let on = reached-step pieces caps s next Loss h step in
      let node = node-of next on in
      let rest = way-down fuel next node.0 t (omega arith) on node.1 is_type fits in
      (record { tail = v; head = node.0; mark = Loss } ∷ rest.0, (step-path s next Loss v node.0 number node.1 step, refl, rest.1)))
      (λ ge. (record { tail = v; head = length states + t; mark = Loss } ∷ [], (end-path s v t number (omega arith) is_type fits, refl, refl)))
      (cases_lt s.piece (length pieces))

  -- the source is the first node
  pub source-first : (v : ℕ) → IsNumber states v (source N) → v ≡ 1
  source-first v number =
      ⊎_elim
      (λ lt. absurd (
      let first = state-of 1 (omega arith) (omega (arith, number.low, number.high)) in
      first-reached first.2.0 first.0 first.2.1 first.1 lt))
      (λ ge. omega (arith, number.low))
      (cases_lt 1 v)
    where
      -- what leads to the first node would stand before it
      first-reached : (n : ℕ) (s : State N) → ReachedIn pieces caps n s → IsNumber states 1 s → 1 < v → ⊥
      first-reached zero s h at lt = let same = number-one state_cmp state-total states up 1 v s (source N) at number h in omega arith
      first-reached (suc n) s h at lt =
          let before = node-of h.0 (n, h.1) in
          let less = number-less state_cmp state-total states up before.0 1 h.0 s before.1 at (step-before pieces caps h.0 s h.2.0 h.2.1) in
          omega (arith, less, before.1.low)

  pub source-at : IsNumber states 1 (source N)
  source-at =
      let node = node-of (source N) (0, refl) in
      subst (λ (v : ℕ). IsNumber states v (source N)) (source-first node.0 node.1) node.1

  pub way-up : (n : ℕ) (s : State N) (v : ℕ) → ReachedIn pieces caps n s → IsNumber states v s → (path : List GraphArc) × IsPath arcs 1 v path
  way-up zero s v h number = ([], number-one state_cmp state-total states up 1 v (source N) s source-at number (sym h))
  way-up (suc n) s v h number =
      let before = node-of h.0 (n, h.1) in
      let front = way-up n h.0 before.0 h.1 before.1 in
      let last : GraphArc = record { tail = before.0; head = v; mark = h.2.0 } in
      (front.0 ++ last ∷ [], IsPath-append arcs 1 before.0 v front.0 (last ∷ []) front.1 (step-path h.0 s h.2.0 before.0 v before.1 number h.2.1, refl, refl))

  arc-cases : (e : GraphArc) → Contains arcs e → IsStepArc pieces caps states e ⊎ IsEndArc pieces caps states e
  arc-cases e m = (arcs_are e).0 m

  -- arcs leave no target
  none-after : (v : ℕ) → length states < v → (path : List GraphArc) (b : ℕ) → IsPath arcs v b path → v ≡ b
  none-after v past [] b h = h
  none-after v past (e ∷ path) b h =
      absurd (⊎_elim (λ arc. omega (arith, arc.tail_at.high, h.1)) (λ arc. omega (arith, arc.tail_at.high, h.1)) (arc-cases e h.0))

  empty-after : (v : ℕ) → length states < v → (path : List GraphArc) (b d : ℕ) → IsPath arcs v b path → weight_in pieces d path ≡ 0
  empty-after v past [] b d h = refl
  empty-after v past (e ∷ path) b d h =
      absurd (⊎_elim (λ arc. omega (arith, arc.tail_at.high, h.1)) (λ arc. omega (arith, arc.tail_at.high, h.1)) (arc-cases e h.0))

  step-weight : (m : Mark) (s t : State N) (d : ℕ) → Step pieces caps s m t → get_or t.used d 0 ≡ get_or s.used d 0 + get_or (mark_weight pieces m) d 0
  step-weight (Carries p) s t d step =
      let used : t.used ≡ plus s.used (piece_weight pieces s.piece) = ap (λ (z : State N). z.used) step.4 in
      let same : get_or (piece_weight pieces p) d 0 ≡ get_or (piece_weight pieces s.piece) d 0 = ap (λ (q : ℕ). get_or (piece_weight pieces q) d 0) step.0 in
      omega (arith, ap (λ (l : List ℕ). get_or l d 0) used, same, get_or-plus s.used (piece_weight pieces s.piece) d)
  step-weight Loss s t d step =
      let used : t.used ≡ s.used = ap (λ (z : State N). z.used) step.1 in
      omega (arith, ap (λ (l : List ℕ). get_or l d 0) used)

  state-same : (v : ℕ) (s t : State N) → IsNumber states v s → IsNumber states v t → s ≡ t
  state-same v s t one two = sym (one.here s) ∙ two.here s

  -- what is used at a state and what a path carries on to a target fit the type
  pub used-fits : (path : List GraphArc) (v t : ℕ) (s : State N) → IsNumber states v s → IsType caps t → IsPath arcs v (length states + t) path → (d : ℕ) → get_or s.used d 0 + weight_in pieces d path ≤ get_or (cap_at caps t) d 0
  used-fits [] v t s number is_type h d = absurd (omega (arith, number.high, is_type.0, h))
  used-fits (e ∷ path) v t s number is_type h d =
      ⊎_elim
      (λ arc.
      let rest = used-fits path e.head t arc.to arc.head_at is_type h.2 d in
      let from : s ≡ arc.from = state-same v s arc.from number (subst (λ (w : ℕ). IsNumber states w arc.from) h.1 arc.tail_at) in
      let used : get_or s.used d 0 ≡ get_or arc.from.used d 0 = ap (λ (z : State N). get_or z.used d 0) from in
      omega (arith, rest, used, step-weight e.mark arc.from arc.to d arc.step))
      (λ arc.
      let past : length states < e.head = omega (arith, arc.head_is, arc.is_type.0) in
      let ends = none-after e.head past path (length states + t) h.2 in
      let same : arc.bin_type ≡ t = omega (arith, arc.head_is, ends) in
      let from : s ≡ arc.from = state-same v s arc.from number (subst (λ (w : ℕ). IsNumber states w arc.from) h.1 arc.tail_at) in
      let used : get_or s.used d 0 ≡ get_or arc.from.used d 0 = ap (λ (z : State N). get_or z.used d 0) from in
      let fits : get_or arc.from.used d 0 ≤ get_or (cap_at caps t) d 0 = subst (λ (k : ℕ). AtMost arc.from.used (cap_at caps k)) same arc.fits d in
      let nothing : get_or (mark_weight pieces e.mark) d 0 ≡ 0 = ap (λ (m : Mark). get_or (mark_weight pieces m) d 0) arc.mark_is in
      omega (arith, fits, used, nothing, empty-after e.head past path (length states + t) d h.2))
      (arc-cases e h.0)

  arc-known : (m : Mark) (s t : State N) → IsReached pieces caps s → Step pieces caps s m t → IsKnown pieces m
  arc-known (Carries p) s t h step = (omega (arith, step.0, reached-piece pieces caps s h), omega (arith, step.0, step.1))
  arc-known Loss s t h step = tt

  pub arc-climbs : (g : JointValue N) → g.inner ≡ length states → g.caps ≡ caps → (e : GraphArc) → Contains arcs e → ClimbsIn g e
  arc-climbs g inner caps_are e m =
      let types : length g.caps ≡ length caps = ap length caps_are in
      ⊎_elim
      (λ arc. record {
        low = arc.tail_at.low;
        from_inner = omega (arith, inner, arc.tail_at.high);
        up = number-less state_cmp state-total states up e.tail e.head arc.from arc.to arc.tail_at arc.head_at (step-before pieces caps arc.from arc.to e.mark arc.step);
        high = omega (arith, inner, arc.head_at.high);
      })
      (λ arc. record {
        low = arc.tail_at.low;
        from_inner = omega (arith, inner, arc.tail_at.high);
        up = omega (arith, arc.tail_at.high, arc.head_is, arc.is_type.0);
        high = omega (arith, inner, types, arc.head_is, arc.is_type.1);
      })
      (arc-cases e m)

  reached-at : (v : ℕ) (s : State N) → IsNumber states v s → IsReached pieces caps s
  reached-at v s number = (reached s).0 (v - 1, omega (arith, number.low, number.high), number.here s)

  pub levels-are-joint : N ≤ 32 → All (λ (q : Piece N). length q.weight ≡ N) pieces → All (λ (l : List ℕ). IsInRange l) caps → ArePieces pieces → 1 ≤ length caps → length caps ≤ MAX_TYPES → length states < 2 ^ 63 → AllPairs ArcBefore arcs → IsJoint N (record { pieces = pieces; caps = caps; inner = length states; arcs = arcs })
  levels-are-joint small sized ranged are some types few ordered =
      record {
        small = small;
        source = omega (arith, source-at.high);
        types = some;
        few_types = types;
        few_nodes = few;
        caps_ranged = ranged;
        pieces_sized = sized;
        heavy = are.heavy;
        ordered = ordered;
        climbs = λ k d lt. arc-climbs whole refl refl (get_or arcs k d) (Contains-get_or arcs k d lt);
        known = λ k d lt. ⊎_elim
            (λ arc. arc-known (get_or arcs k d).mark arc.from arc.to (reached-at (get_or arcs k d).tail arc.from arc.tail_at) arc.step)
            (λ arc. subst (λ (m : Mark). IsKnown pieces m) (sym arc.mark_is) tt)
            (arc-cases (get_or arcs k d) (Contains-get_or arcs k d lt));
        comes = comes;
        goes = goes;
        fits = λ t is_type path leads d. omega (arith, used-fits path 1 t (source N) source-at is_type leads d);
      }
    where
      whole : JointValue N
      whole = record { pieces = pieces; caps = caps; inner = length states; arcs = arcs }

      comes : (v : ℕ) → IsNode whole v → IsReachable whole v
      comes v node =
          ⊎_elim
          (λ lt.
          let t = v - length states in
          let same : length states + t ≡ v = omega arith in
          let is_type : IsType caps t = (omega arith, omega (arith, node.1)) in
          let way = way-down (length pieces) (source N) 1 t (omega arith) (0, refl) source-at is_type (zeros-fit pieces caps t) in
          (way.0, subst (λ (b : ℕ). IsPath arcs 1 b way.0) same way.1))
          (λ ge.
          let s = state-of v node.0 (omega arith) in
          way-up s.2.0 s.0 v s.2.1 s.1)
          (cases_lt (length states) v)

      goes : (v : ℕ) → IsNode whole v → HasWayOn whole v
      goes v node =
          ⊎_elim
          (λ lt.
          let t = v - length states in
          let same : v ≡ length states + t = omega arith in
          (t, (omega arith, omega (arith, node.1)), ([], same)))
          (λ ge.
          let s = state-of v node.0 (omega arith) in
          let fits = reached-fits pieces caps some s.0 s.2 in
          (fits.0, fits.1, way-down (length pieces) s.0 v fits.0 (omega arith) s.2 s.1 fits.1 fits.2))
          (cases_lt (length states) v)
