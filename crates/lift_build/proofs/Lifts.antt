-- What the ways on from a state leave, and that a state which stands for another has the same ways on.
use Rattle.std.proofs.Common.{◌≡◌, ℕ, zero, suc, ◌+◌, ◌-◌, ◌<◌, ◌≤◌, List, [], ◌∷◌, length, get_or, refl, sym, ap, ◌∙◌, subst, inl, inr, ⊎_elim, arith}
use Rattle.std.proofs.lemmas.Bool.{cases_lt}
use Rattle.weight_vec.specs.Weight.{AtMost, lower, minus, plus}
use Rattle.weight_vec.proofs.Places.{get_or-plus, get_or-zeros}
use Rattle.label_graph.specs.declared.parts.Piece.{Piece}
use Rattle.label_graph.specs.declared.parts.Mark.{Mark}
use Rattle.label_graph.specs.declared.parts.Mark.TheVariants.{Loss, Piece as Carries}
use Rattle.label_graph.specs.Graph.{piece_weight, mark_weight}
use Rattle.level_graph.specs.declared.states.State.{State}
use Rattle.level_graph.specs.Levels.{Step, target, piece_copies}
use Rattle.level_graph.proofs.Arcs.{step-one}
use Rattle.level_graph.proofs.Reached.{next_reached}
use Rattle.lift_build.specs.inner.Rooms.{left_taking, left_before, room_left, HasEnoughCopies, HasCopiesFor, IsUnder, IsLift}
use Rattle.lift_build.proofs.Copies.{taking-enough, copies-both, copies-left, copies-next, copies-fewer}
use Rattle.lift_build.proofs.Takings.{IsRoom, take-fits, take-heavy, taking-is_room, below-skip, below-take}

module _ {N : ℕ} (pieces : List (Piece N)) (cap : List ℕ) where
  pub room-target : room_left pieces cap (target pieces cap) ≡ cap
  unfolding left_before room_left
  room-target = by pieces
    where
      by : (ps : List (Piece N)) → left_before pieces cap (length ps + 1 - (target ps cap).piece) (target ps cap).copies (target ps cap).used ≡ cap
      by [] = refl
      by (q ∷ ps) = let none : length (q ∷ ps) + 1 - (length (q ∷ ps) + 1) ≡ 0 = omega arith in ap (λ (n : ℕ). left_before pieces cap n 0 cap) none

  pub room-open : (s : State N) → s.piece ≤ length pieces → room_left pieces cap s ≡ left_taking cap (piece_weight pieces s.piece) (left_before pieces cap (length pieces - s.piece) 0) (piece_copies pieces s.piece - s.copies) s.used
  unfolding left_before room_left
  room-open s le =
      let m = length pieces - s.piece in
      let e : length pieces + 1 - s.piece ≡ suc m = omega arith in
      let f : length pieces - m ≡ s.piece = omega arith in
      ap (λ (n : ℕ). left_before pieces cap n s.copies s.used) e
      ∙ ap (λ (p : ℕ). left_taking cap (piece_weight pieces p) (left_before pieces cap m 0) (piece_copies pieces p - s.copies) s.used) f

  pub room-skip : (s t : State N) → Step pieces cap s Loss t → room_left pieces cap t ≡ left_before pieces cap (length pieces - s.piece) 0 s.used
  unfolding left_before room_left
  room-skip s t step =
      ⊎_elim
      (λ w. let e : length pieces + 1 - (s.piece + 1) ≡ length pieces - s.piece = omega arith in ap (λ (z : State N). room_left pieces cap z) w.1 ∙ ap (λ (n : ℕ). left_before pieces cap n 0 s.used) e)
      (λ w. let e : 0 ≡ length pieces - s.piece = omega (arith, w.0) in ap (λ (z : State N). room_left pieces cap z) w.1 ∙ room-target ∙ ap (λ (n : ℕ). left_before pieces cap n 0 s.used) e)
      step

  pub skip-low : (s t : State N) → Step pieces cap s Loss t → s.piece ≤ length pieces
  skip-low s t step = ⊎_elim (λ w. omega (arith, w.0)) (λ w. omega (arith, w.0)) step

  pub skip-some : (s : State N) → s.piece ≤ length pieces → (t : State N) × Step pieces cap s Loss t
  skip-some s le = ⊎_elim (λ lt. (record { piece = s.piece + 1; copies = 0; used = s.used }, inl (lt, refl))) (λ ge. (target pieces cap, inr (omega arith, refl))) (cases_lt s.piece (length pieces))

  module _ (sized : length cap ≡ N) where
    pub before-is_room : (m c : ℕ) → IsRoom N cap (left_before pieces cap m c)
    unfolding left_before
    before-is_room zero c = record { sized = λ x. sized; within = λ x d. omega arith; above = λ x low. low; same = λ x y low high. refl }
    before-is_room (suc m) c = taking-is_room N cap (piece_weight pieces (length pieces - m)) (left_before pieces cap m 0) (before-is_room m 0) (piece_copies pieces (length pieces - m) - c)

    pub room-sized : (s : State N) → length (room_left pieces cap s) ≡ N
    unfolding room_left
    room-sized s = (before-is_room (length pieces + 1 - s.piece) s.copies).sized s.used

    pub room-within : (s : State N) → AtMost (room_left pieces cap s) cap
    unfolding room_left
    room-within s = (before-is_room (length pieces + 1 - s.piece) s.copies).within s.used

    pub room-above : (s : State N) → AtMost s.used cap → AtMost s.used (room_left pieces cap s)
    unfolding room_left
    room-above s fits = (before-is_room (length pieces + 1 - s.piece) s.copies).above s.used fits

    pub room-take : (s t : State N) (p : ℕ) → Step pieces cap s (Carries p) t → room_left pieces cap t ≡ left_taking cap (piece_weight pieces s.piece) (left_before pieces cap (length pieces - s.piece) 0) (piece_copies pieces s.piece - (s.copies + 1)) (plus s.used (piece_weight pieces s.piece))
    room-take s t p step = ap (λ (z : State N). room_left pieces cap z) step.4 ∙ room-open (record { piece = s.piece; copies = s.copies + 1; used = plus s.used (piece_weight pieces s.piece) }) step.1

    -- where a copy fits
    pub room-more : (s t : State N) (p : ℕ) → Step pieces cap s (Carries p) t → room_left pieces cap s ≡ left_taking cap (piece_weight pieces s.piece) (left_before pieces cap (length pieces - s.piece) 0) (suc (piece_copies pieces s.piece - (s.copies + 1))) s.used
    room-more s t p step =
        let e : piece_copies pieces s.piece - s.copies ≡ suc (piece_copies pieces s.piece - (s.copies + 1)) = omega (arith, step.2) in
        room-open s step.1 ∙ ap (λ (n : ℕ). left_taking cap (piece_weight pieces s.piece) (left_before pieces cap (length pieces - s.piece) 0) n s.used) e

    -- what is left before both ways on
    pub room-both : (s t u : State N) (p : ℕ) → Step pieces cap s (Carries p) t → Step pieces cap s Loss u → room_left pieces cap s ≡ lower (room_left pieces cap u) (minus (room_left pieces cap t) (piece_weight pieces s.piece))
    room-both s t u p take skip =
        let w = piece_weight pieces s.piece in
        let m = length pieces - s.piece in
        let behind = left_before pieces cap m 0 in
        let n = piece_copies pieces s.piece - (s.copies + 1) in
        let first : behind s.used ≡ room_left pieces cap u = sym (room-skip s u skip) in
        let second : left_taking cap w behind n (plus s.used w) ≡ room_left pieces cap t = sym (room-take s t p take) in
        room-more s t p take ∙ take-fits N cap w behind (before-is_room m 0) n s.used take.3 ∙ (λ i. lower (first i) (minus (second i) w))

    -- what is left where no copy fits
    pub room-only : (s u : State N) → ((t : State N) → Step pieces cap s (Carries s.piece) t → ⊥) → Step pieces cap s Loss u → room_left pieces cap s ≡ room_left pieces cap u
    room-only s u never skip =
        let w = piece_weight pieces s.piece in
        let m = length pieces - s.piece in
        let behind = left_before pieces cap m 0 in
        let n = piece_copies pieces s.piece - s.copies in
        let low = skip-low s u skip in
        room-open s low
        ∙ ⊎_elim
        (λ lt. take-heavy N cap w behind (before-is_room m 0) n s.used (λ fits. never (record { piece = s.piece; copies = s.copies + 1; used = plus s.used w }) (refl, low, lt, fits, refl)))
        (λ ge. let none : n ≡ 0 = omega arith in ap (λ (j : ℕ). left_taking cap w behind j s.used) none)
        (cases_lt s.copies (piece_copies pieces s.piece))
        ∙ sym (room-skip s u skip)

    -- along a step what is left rises by what the step carries at least
    pub step-rises : (s t : State N) (m : Mark) → Step pieces cap s m t → AtMost (plus (room_left pieces cap s) (mark_weight pieces m)) (room_left pieces cap t)
    step-rises s t Loss step d =
        let low = skip-low s t step in
        let m = length pieces - s.piece in
        let most = below-skip N cap (piece_weight pieces s.piece) (left_before pieces cap m 0) (before-is_room m 0) (piece_copies pieces s.piece - s.copies) s.used d in
        let here = ap (λ (l : List ℕ). get_or l d 0) (room-open s low) in
        let there = ap (λ (l : List ℕ). get_or l d 0) (room-skip s t step) in
        let nothing : get_or (mark_weight pieces Loss) d 0 ≡ 0 = refl in
        omega (arith, get_or-plus (room_left pieces cap s) (mark_weight pieces Loss) d)
    step-rises s t (Carries p) step d =
        let m = length pieces - s.piece in
        let w = piece_weight pieces s.piece in
        let n = piece_copies pieces s.piece - (s.copies + 1) in
        let behind = left_before pieces cap m 0 in
        let most = below-take N cap w behind (before-is_room m 0) n s.used step.3 d in
        let here = ap (λ (l : List ℕ). get_or l d 0) (room-more s t p step) in
        let there = ap (λ (l : List ℕ). get_or l d 0) (room-take s t p step) in
        let weight = ap (λ (q : ℕ). get_or (piece_weight pieces q) d 0) step.0 in
        omega (arith, get_or-plus (room_left pieces cap s) (piece_weight pieces p) d, get_or-plus (left_taking cap w behind (suc n) s.used) w d)

    -- copies for which there is no room are nothing to what is left
    room-enough : (s : State N) (copies : ℕ) → copies ≤ s.copies → HasEnoughCopies pieces cap s → left_before pieces cap (length pieces + 1 - s.piece) copies s.used ≡ room_left pieces cap s
    unfolding left_before room_left
    room-enough s copies le enough =
        let before : State N = record { piece = s.piece; copies = copies; used = s.used } in
        let m = length pieces - s.piece in
        ⊎_elim
        (λ past. let none : length pieces + 1 - s.piece ≡ 0 = omega arith in ap (λ (n : ℕ). left_before pieces cap n copies s.used) none ∙ sym (ap (λ (n : ℕ). left_before pieces cap n s.copies s.used) none))
        (λ within.
        room-open before within
        ∙ taking-enough N cap (piece_weight pieces s.piece) (left_before pieces cap m 0) (before-is_room m 0) (piece_copies pieces s.piece - copies) (piece_copies pieces s.piece - s.copies) s.used (omega arith) enough
        ∙ sym (room-open s within))
        (cases_lt (length pieces) s.piece)

    pub under-room : (r s : State N) → IsUnder pieces cap r s → room_left pieces cap r ≡ room_left pieces cap s
    unfolding room_left
    under-room r s is =
        (before-is_room (length pieces + 1 - r.piece) r.copies).same r.used s.used is.above is.below
        ∙ ap (λ (p : ℕ). left_before pieces cap (length pieces + 1 - p) r.copies s.used) is.piece
        ∙ ⊎_elim
        (λ same. ap (λ (c : ℕ). left_before pieces cap (length pieces + 1 - s.piece) c s.used) same)
        (λ enough. room-enough s r.copies enough.0 enough.1)
        is.copies

    pub under-itself : (s : State N) → AtMost s.used cap → IsUnder pieces cap s s
    under-itself s fits = record { piece = refl; copies = inl refl; above = λ d. omega arith; below = room-above s fits }

    -- the state with more copies taken, where those that are left are enough
    pub under-copies : (s t : State N) → AtMost s.used cap → t ≡ record { piece = s.piece; copies = t.copies; used = s.used } → HasCopiesFor pieces cap s.copies t → IsUnder pieces cap s t
    under-copies s t fits same copies = record {
      piece = sym (ap (λ (z : State N). z.piece) same);
      copies = copies;
      above = λ d. omega (arith, ap (λ (z : State N). get_or z.used d 0) same);
      below = λ d. omega (arith, ap (λ (z : State N). get_or z.used d 0) same, room-above s fits d);
    }

    pub under-both : (r s t : State N) → IsUnder pieces cap r s → IsUnder pieces cap s t → IsUnder pieces cap r t
    under-both r s t one two = record {
      piece = one.piece ∙ two.piece;
      copies = copies-both pieces cap r.copies s t two.piece two.above one.copies two.copies;
      above = λ d. omega (arith, one.above d, two.above d);
      below = subst (λ (l : List ℕ). AtMost t.used l) (sym (under-room r s one)) two.below;
    }

    pub target-under : IsUnder pieces cap (target pieces cap) (target pieces cap)
    target-under = record { piece = refl; copies = inl refl; above = λ d. omega arith; below = subst (λ (l : List ℕ). AtMost (target pieces cap).used l) (sym room-target) (by pieces) }
      where
        by : (ps : List (Piece N)) → AtMost (target ps cap).used cap
        by [] d = omega (arith, get_or-zeros N d)
        by (q ∷ ps) d = omega arith

    -- the state behind a step of the one stands below the state behind the same step of the other
    pub under-next : (r s u : State N) (m : Mark) → IsUnder pieces cap r s → Step pieces cap r m u → (v : State N) × Step pieces cap s m v × IsUnder pieces cap u v
    under-next r s u Loss is step =
        let rises : (d : ℕ) → get_or s.used d 0 ≤ get_or (room_left pieces cap u) d 0 = λ d.
        let nothing : get_or (mark_weight pieces Loss) d 0 ≡ 0 = refl in
        omega (arith, is.below d, step-rises r u Loss step d, get_or-plus (room_left pieces cap r) (mark_weight pieces Loss) d) in
        ⊎_elim
        (λ w. (
          record { piece = s.piece + 1; copies = 0; used = s.used },
          inl (omega (arith, is.piece, w.0), refl),
          record {
            piece = ap (λ (z : State N). z.piece) w.1 ∙ ap (λ (p : ℕ). p + 1) is.piece;
            copies = inl (ap (λ (z : State N). z.copies) w.1);
            above = λ d. omega (arith, is.above d, ap (λ (z : State N). get_or z.used d 0) w.1);
            below = rises;
          },
        ))
        (λ w. (target pieces cap, inr (omega (arith, is.piece, w.0), refl), subst (λ (z : State N). IsUnder pieces cap z (target pieces cap)) (sym w.1) target-under))
        step
    under-next r s u (Carries p) is step =
        let w = piece_weight pieces r.piece in
        let same : piece_weight pieces s.piece ≡ w = ap (λ (q : ℕ). piece_weight pieces q) (sym is.piece) in
        let weight = ap (λ (q : ℕ). piece_weight pieces q) step.0 in
        let high : AtMost (plus s.used w) (room_left pieces cap u) = λ d. omega (arith, is.below d, step-rises r u (Carries p) step d, get_or-plus (room_left pieces cap r) (piece_weight pieces p) d, get_or-plus s.used w d, ap (λ (l : List ℕ). get_or l d 0) weight) in
        let high' : AtMost (plus s.used (piece_weight pieces s.piece)) (room_left pieces cap u) = subst (λ (l : List ℕ). AtMost (plus s.used l) (room_left pieces cap u)) (sym same) high in
        let fits : AtMost (plus s.used (piece_weight pieces s.piece)) cap = λ d. omega (arith, high' d, room-within u d) in
        let few : r.copies < piece_copies pieces s.piece = omega (arith, step.2, ap (λ (q : ℕ). piece_copies pieces q) is.piece) in
        let copies : s.copies < piece_copies pieces s.piece = copies-left pieces cap r.copies s is.copies few fits in (
          record { piece = s.piece; copies = s.copies + 1; used = plus s.used (piece_weight pieces s.piece) },
          (step.0 ∙ is.piece, omega (arith, is.piece, step.1), copies, fits, refl),
          record {
            piece = ap (λ (z : State N). z.piece) step.4 ∙ is.piece;
            copies = subst (λ (c : ℕ). HasCopiesFor pieces cap c (record { piece = s.piece; copies = s.copies + 1; used = plus s.used (piece_weight pieces s.piece) })) (sym (ap (λ (z : State N). z.copies) step.4)) (copies-next pieces cap r.copies s is.copies copies);
            above = λ d. omega (arith, is.above d, ap (λ (z : State N). get_or z.used d 0) step.4, get_or-plus r.used w d, get_or-plus s.used (piece_weight pieces s.piece) d, ap (λ (l : List ℕ). get_or l d 0) same);
            below = high';
          },
        )

    -- and each step of the one that stands for the other is a step of that other
    pub under-back : (r s v : State N) (m : Mark) → IsUnder pieces cap r s → Step pieces cap s m v → (u : State N) × Step pieces cap r m u × IsUnder pieces cap u v
    under-back r s v m is step =
        let step_r = back m step in
        let next = under-next r s step_r.0 m is step_r.1 in
        (step_r.0, step_r.1, subst (λ (z : State N). IsUnder pieces cap step_r.0 z) (step-one pieces cap s next.0 v m next.1 step) next.2)
      where
        back : (m : Mark) → Step pieces cap s m v → (u : State N) × Step pieces cap r m u
        back Loss step = skip-some r (omega (arith, is.piece, skip-low s v step))
        back (Carries p) step =
            let same : piece_weight pieces s.piece ≡ piece_weight pieces r.piece = ap (λ (q : ℕ). piece_weight pieces q) (sym is.piece) in
            let fits : AtMost (plus r.used (piece_weight pieces r.piece)) cap = λ d. omega (arith, is.above d, step.3 d, get_or-plus s.used (piece_weight pieces s.piece) d, get_or-plus r.used (piece_weight pieces r.piece) d, ap (λ (l : List ℕ). get_or l d 0) same) in
            (record { piece = r.piece; copies = r.copies + 1; used = plus r.used (piece_weight pieces r.piece) }, (step.0 ∙ sym is.piece, omega (arith, is.piece, step.1), omega (arith, copies-fewer pieces cap r.copies s is.copies, step.2, ap (λ (q : ℕ). piece_copies pieces q) is.piece), fits, refl))

    -- behind a step of a state that stands for one that is reached lies another such state
    pub lift-step : (s t next : State N) (m : Mark) → IsLift pieces cap s → Step pieces cap s m t → IsUnder pieces cap t next → IsLift pieces cap next
    lift-step s t next m is step under =
        let back = under-back is.state s t m is.under step in
        record { state = back.0; reached = next_reached pieces cap is.state back.0 m is.reached back.1; under = under-both back.0 t next back.2 under }

    pub lift-room : (s : State N) (is : IsLift pieces cap s) → room_left pieces cap is.state ≡ room_left pieces cap s
    lift-room s is = under-room is.state s is.under

    pub lift-fits : (s : State N) → IsLift pieces cap s → AtMost s.used cap
    lift-fits s is d = omega (arith, is.under.below d, room-within is.state d)
