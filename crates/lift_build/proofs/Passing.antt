-- States without a take, which are passed by: what is known of the state that they pass into is known of them.
use Rattle.std.proofs.Common.{◌≡◌, ℕ, zero, suc, ◌+◌, ◌<◌, ◌≤◌, List, length, refl, sym, ap, ◌∙◌, subst, inl, inr, ⊎_elim, arith}
use Rattle.std.proofs.lemmas.Bool.{cases_lt}
use Rattle.label_graph.specs.declared.parts.GraphArc.{GraphArc}
use Rattle.label_graph.specs.declared.parts.Piece.{Piece}
use Rattle.label_graph.specs.declared.parts.Mark.{Mark}
use Rattle.label_graph.specs.declared.parts.Mark.TheVariants.{Loss, Piece as Carries}
use Rattle.level_graph.specs.declared.states.State.{State}
use Rattle.level_graph.specs.Levels.{Step, target}
use Rattle.level_graph.proofs.Arcs.{step-one}
use Rattle.level_graph.proofs.Reached.{next_reached}
use Rattle.lift_build.specs.declared.states.LiftedState.{LiftedState}
use Rattle.lift_build.specs.inner.Numbers.{IsNumber}
use Rattle.lift_build.specs.inner.Rooms.{room_left, IsLift}
use Rattle.lift_build.specs.inner.Searches.{IsDone, HasImage, Covers, HasNoTake, PassesIn, PassesInto, PassesUnder, MayPass, state_of}
use Rattle.lift_build.proofs.Lifts.{room-only, under-back, under-both}
use Rattle.lift_build.proofs.Covering.{covers-more}

module _ {N : ℕ} (pieces : List (Piece N)) (cap : List ℕ) (sized : length cap ≡ N) where
  module _ (labels : List (List ℕ)) (arcs : List GraphArc) where
    -- a state that has no take has the label of the one behind its skip, and that is all there is
    done-skip : (s u : State N) (number : ℕ) → HasNoTake pieces cap s → Step pieces cap s Loss u → IsDone pieces cap labels arcs u number → IsDone pieces cap labels arcs s number
    done-skip s u number never skip done =
        let same : room_left pieces cap s ≡ room_left pieces cap u = room-only pieces cap sized s u never skip in
        let label : IsNumber labels number (room_left pieces cap s) = subst (λ (l : List ℕ). IsNumber labels number l) (sym same) done.label in
        record {
          label = label;
          covers = covers-more pieces cap sized labels arcs s (record { number = number; label = label; steps = images same }) rest;
        }
      where
        images : room_left pieces cap s ≡ room_left pieces cap u → (m : Mark) (t : State N) → Step pieces cap s m t → HasImage pieces cap labels arcs s m t
        images same Loss t step = inl (refl, same ∙ ap (room_left pieces cap) (step-one pieces cap s u t Loss skip step))
        images same (Carries p) t step = absurd (never t (subst (λ (q : ℕ). Step pieces cap s (Carries q) t) step.0 step))

        rest : (m : Mark) (t : State N) → Step pieces cap s m t → Covers pieces cap labels arcs t
        rest Loss t step = subst (λ (z : State N). Covers pieces cap labels arcs z) (step-one pieces cap s u t Loss skip step) done.covers
        rest (Carries p) t step = absurd (never t (subst (λ (q : ℕ). Step pieces cap s (Carries q) t) step.0 step))

    done-passes-in : (n : ℕ) (s t : State N) (number : ℕ) → PassesIn pieces cap n s t → IsDone pieces cap labels arcs t number → IsDone pieces cap labels arcs s number
    done-passes-in zero s t number passes done = subst (λ (z : State N). IsDone pieces cap labels arcs z number) (sym passes) done
    done-passes-in (suc n) s t number passes done = done-skip s passes.0 number passes.1 passes.2 (done-passes-in n passes.0 t number passes.3 done)

    pub done-passes : (s t : State N) (number : ℕ) → PassesInto pieces cap s t → IsDone pieces cap labels arcs t number → IsDone pieces cap labels arcs s number
    done-passes s t number passes done = done-passes-in passes.0 s t number passes.1 done

  -- steps lead on from states that stand for reached ones to others
  pub lift-next : (s t : State N) (m : Mark) → IsLift pieces cap s → Step pieces cap s m t → IsLift pieces cap t
  lift-next s t m is step =
      let back = under-back pieces cap sized is.state s t m is.under step in
      record { state = back.0; reached = next_reached pieces cap is.state back.0 m is.reached back.1; under = back.2 }

  lift-passes-in : (n : ℕ) (s t : State N) → IsLift pieces cap s → PassesIn pieces cap n s t → IsLift pieces cap t
  lift-passes-in zero s t is passes = subst (λ (z : State N). IsLift pieces cap z) passes is
  lift-passes-in (suc n) s t is passes = lift-passes-in n passes.0 t (lift-next s passes.0 Loss is passes.2) passes.3

  pub lift-under : (s t : State N) → IsLift pieces cap s → PassesUnder pieces cap s t → IsLift pieces cap t
  lift-under s t is passes =
      let last = lift-passes-in passes.1.0 s passes.0 is passes.1.1 in
      record { state = last.state; reached = last.reached; under = under-both pieces cap sized last.state passes.0 t last.under passes.2 }

module _ {N : ℕ} (pieces : List (Piece N)) (cap : List ℕ) where
  passes-more : (n : ℕ) (s t u : State N) → PassesIn pieces cap n s t → HasNoTake pieces cap t → Step pieces cap t Loss u → PassesIn pieces cap (suc n) s u
  passes-more zero s t u passes never skip =
      (u, subst (λ (z : State N). HasNoTake pieces cap z) (sym passes) never, subst (λ (z : State N). Step pieces cap z Loss u) (sym passes) skip, refl)
  passes-more (suc n) s t u passes never skip = (passes.0, passes.1, passes.2, passes-more n passes.0 t u passes.3 never skip)

  pub may-start : (s : LiftedState N) (index : ℕ) → s.piece ≡ index + 1 → s.piece ≤ length pieces → MayPass pieces cap s index s
  may-start s index here within = inl ((0, refl), here, within, refl)

  -- a state that has no take is passed by
  pub may-next : (s here next : LiftedState N) (index : ℕ) → MayPass pieces cap s index here → index < length pieces → HasNoTake pieces cap (state_of here) → next ≡ record { piece = index + 2; copies = 0; used = s.used } → MayPass pieces cap s (index + 1) next
  may-next s here next index may within never new =
      ⊎_elim
      (λ at.
      let used : (record { piece = here.piece + 1; copies = 0; used = here.used }) ≡ state_of next =
      (λ i. record { piece = (let e : here.piece + 1 ≡ next.piece = omega (arith, at.1, ap (λ (z : LiftedState N). z.piece) new) in e) i; copies = (let e : 0 ≡ next.copies = sym (ap (λ (z : LiftedState N). z.copies) new) in e) i; used = (at.3 ∙ sym (ap (λ (z : LiftedState N). z.used) new)) i }) in
      ⊎_elim
      (λ lt. inl (
        (suc at.0.0, passes-more at.0.0 (state_of s) (state_of here) (state_of next) at.0.1 never (inl (lt, sym used))),
        omega (arith, at.1, ap (λ (z : LiftedState N). z.piece) new),
        omega (arith, at.1, ap (λ (z : LiftedState N). z.piece) new),
        ap (λ (z : LiftedState N). z.used) new,
      ))
      (λ ge. inr ((suc at.0.0, passes-more at.0.0 (state_of s) (state_of here) (target pieces cap) at.0.1 never (inr (omega (arith, at.1, at.2), refl))), omega (arith, at.1)))
      (cases_lt here.piece (length pieces)))
      (λ past. absurd (omega (arith, past.1)))
      may
