-- States that wait, and the end of a search.
use Rattle.std.proofs.Common.{◌≡◌, ℕ, ◌<◌, ◌≤◌, List, [], ◌∷◌, ◌++◌, length, Option, Some, None, refl, sym, ap, ◌∙◌, subst, arith}
use Rattle.std.specs.Prelude.{All, MatchOption}
use Rattle.std.proofs.lemmas.List.{length-append, get_or_append_left, get_or_push}
use Rattle.std.proofs.lemmas.List.Elements.{All-push, All-weaker}
use Rattle.label_graph.specs.declared.parts.GraphArc.{GraphArc}
use Rattle.label_graph.specs.declared.parts.Piece.{Piece}
use Rattle.label_graph.specs.declared.parts.Mark.{Mark}
use Rattle.label_graph.specs.declared.parts.Mark.TheVariants.{Loss}
use Rattle.level_graph.specs.declared.states.State.{State}
use Rattle.level_graph.specs.Levels.{source}
use Rattle.level_graph.proofs.Reached.{target-source, source_reached}
use Rattle.lift_build.specs.declared.states.LiftedState.{LiftedState}
use Rattle.lift_build.specs.declared.found.Ahead.TheVariants.{Known, Lifted}
use Rattle.lift_build.specs.declared.found.Frame.{Frame}
use Rattle.lift_build.specs.declared.found.Search.{Search}
use Rattle.lift_build.specs.inner.Numbers.{IsNumber}
use Rattle.lift_build.specs.inner.Rooms.{room_left, IsUnder, IsLift}
use Rattle.lift_build.specs.inner.Searches.{IsSound, IsSearch, IsWhole, IsWaiting, GrowsInto, LiesAhead, HasNumber, state_of}
use Rattle.lift_build.proofs.Lifts.{room-target}
use Rattle.lift_build.proofs.Passing.{lift-next, lift-under}
use Rattle.lift_build.proofs.Covering.{past-shown, done-under, done-grows}
use Rattle.lift_build.proofs.Aheads.{number-done}

-- the elements in front of the last one, and the last one
module _ {X : Type 0} (P : X → Type 0) (ys xs : List X) (x : X) (same : ys ≡ xs ++ x ∷ []) (all : All P ys) where
  pub all-front : All P xs
  all-front k d lt =
      let within : k < length (xs ++ x ∷ []) = omega (arith, length-append xs (x ∷ [])) in
      let there : All P (xs ++ x ∷ []) = subst (All P) same all in
      subst P (get_or_append_left xs (x ∷ []) d k lt) (there k d within)

  pub all-last : P x
  all-last =
      let within : length xs < length (xs ++ x ∷ []) = omega (arith, length-append xs (x ∷ [])) in
      let there : All P (xs ++ x ∷ []) = subst (All P) same all in
      subst P (get_or_push xs x x (length xs) refl) (there (length xs) x within)

module _ {N : ℕ} (pieces : List (Piece N)) (cap : List ℕ) where
  pub waits-with : (found : Search N) (state : LiftedState N) (skip : ℕ) → IsLift pieces cap (state_of state) → state.piece ≤ length pieces → LiesAhead pieces cap found (state_of state) Loss (Known skip) → IsWaiting pieces cap found (record { state = state; skip = Some skip })
  waits-with found state skip lift within skips = record { lift = lift; within = within; skip = skips }

  pub waits-new : (found : Search N) (state : LiftedState N) → IsLift pieces cap (state_of state) → state.piece ≤ length pieces → IsWaiting pieces cap found (record { state = state; skip = None })
  waits-new found state lift within = record { lift = lift; within = within; skip = tt }

  -- two more states that wait
  pub waits-more : (found : Search N) (stack mid new : List (Frame N)) (frame : Frame N) (next : LiftedState N) → All (IsWaiting pieces cap found) stack → IsWaiting pieces cap found frame → IsLift pieces cap (state_of next) → next.piece ≤ length pieces → mid ≡ stack ++ (record { state = frame.state; skip = frame.skip }) ∷ [] → new ≡ mid ++ (record { state = next; skip = None }) ∷ [] → All (IsWaiting pieces cap found) new
  waits-more found stack mid new frame next all waits lift within one two =
      let first : All (IsWaiting pieces cap found) mid = subst (λ (fs : List (Frame N)). All (IsWaiting pieces cap found) fs) (sym one) (All-push (IsWaiting pieces cap found) stack frame all waits) in
      subst (λ (fs : List (Frame N)). All (IsWaiting pieces cap found) fs) (sym two) (All-push (IsWaiting pieces cap found) mid (record { state = next; skip = None }) first (waits-new found next lift within))

  pub lift-first : (first : LiftedState N) → IsUnder pieces cap (source N) (state_of first) → IsLift pieces cap (state_of first)
  lift-first first under = record { state = source N; reached = source_reached pieces cap; under = under }

  pub waits-first : (found : Search N) (stack new : List (Frame N)) (first : LiftedState N) → All (IsWaiting pieces cap found) stack → IsUnder pieces cap (source N) (state_of first) → first.piece ≡ 1 → 1 ≤ length pieces → new ≡ stack ++ (record { state = first; skip = None }) ∷ [] → All (IsWaiting pieces cap found) new
  waits-first found stack new first all under one some pushed =
      subst (λ (fs : List (Frame N)). All (IsWaiting pieces cap found) fs) (sym pushed)
      (All-push (IsWaiting pieces cap found) stack (record { state = first; skip = None }) all (waits-new found first (lift-first first under) (omega arith)))

  module _ (sized : length cap ≡ N) where
    waiting-grows : (old new : Search N) → GrowsInto old new → (frame : Frame N) → IsWaiting pieces cap old frame → IsWaiting pieces cap new frame
    waiting-grows old new grows frame is = record { lift = is.lift; within = is.within; skip = by frame.skip is.skip }
      where
        by : (o : Option ℕ) → MatchOption o (Unit {0}) (λ number. LiesAhead pieces cap old (state_of frame.state) Loss (Known number)) → MatchOption o (Unit {0}) (λ number. LiesAhead pieces cap new (state_of frame.state) Loss (Known number))
        by None h = tt
        by (Some number) h = (h.0, h.1, done-grows pieces cap sized old.labels new.labels old.arcs new.arcs grows.labels grows.arcs h.0 number h.2)

    pub waits-grow : (old new : Search N) (stack : List (Frame N)) → GrowsInto old new → All (IsWaiting pieces cap old) stack → All (IsWaiting pieces cap new) stack
    waits-grow old new stack grows all = All-weaker (IsWaiting pieces cap old) (IsWaiting pieces cap new) (waiting-grows old new grows) stack all

    pub lift-ahead : (found : Search N) (s : State N) (m : Mark) (next : LiftedState N) → IsLift pieces cap s → LiesAhead pieces cap found s m (Lifted next) → IsLift pieces cap (state_of next)
    lift-ahead found s m next lift ahead = lift-under pieces cap sized ahead.0 (state_of next) (lift-next pieces cap sized s ahead.0 m lift ahead.1) ahead.2

    -- the first state is finished
    pub whole-end : (room : ℕ) (found : Search N) (first : LiftedState N) (number : ℕ) → IsSearch pieces cap room found → IsUnder pieces cap (source N) (state_of first) → HasNumber found first number → IsWhole pieces cap found.labels found.arcs
    whole-end room found first number is under has = record {
      sound = is.sound;
      covers = (done-under pieces cap sized found.labels found.arcs (source N) (state_of first) number under (number-done pieces cap sized room found is first number has)).covers;
    }

    -- without pieces the source is the target
    pub whole-none : (labels : List (List ℕ)) (arcs : List GraphArc) → length pieces ≡ 0 → IsSound pieces cap labels arcs → IsWhole pieces cap labels arcs
    whole-none labels arcs none sound =
        let room : cap ≡ room_left pieces cap (source N) = sym (room-target pieces cap) ∙ ap (room_left pieces cap) (target-source pieces cap none) in
        record {
          sound = sound;
          covers = (past-shown pieces cap sized labels arcs (source N) 1 (omega arith) (subst (λ (l : List ℕ). IsNumber labels 1 l) room sound.target)).covers;
        }
