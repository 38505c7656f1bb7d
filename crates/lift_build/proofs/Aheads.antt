-- What lies behind the steps of a state of a search.
use Rattle.std.proofs.Common.{◌≡◌, ℕ, ◌+◌, ◌-◌, ◌<◌, ◌≤◌, List, [], ◌∷◌, ◌++◌, length, get_or, Some, None, refl, sym, ap, ◌∙◌, subst, inr, ⊎_elim, arith}
use Rattle.std.specs.Prelude.{Contains}
use Rattle.weight_vec.specs.Weight.{AtMost, plus}
use Rattle.label_graph.specs.declared.parts.GraphArc.{GraphArc}
use Rattle.label_graph.specs.declared.parts.Piece.{Piece}
use Rattle.label_graph.specs.declared.parts.Mark.{Mark}
use Rattle.label_graph.specs.declared.parts.Mark.TheVariants.{Loss, Piece as Carries}
use Rattle.label_graph.specs.Graph.{piece_weight}
use Rattle.label_graph.proofs.Members.{contains_cons, contains_nothing}
use Rattle.level_graph.specs.declared.states.State.{State}
use Rattle.level_graph.specs.Levels.{Step, target}
use Rattle.level_graph.proofs.Reached.{reached-low, target-piece, target_reached}
use Rattle.lift_build.specs.declared.states.LiftedState.{LiftedState}
use Rattle.lift_build.specs.declared.found.Ahead.{Ahead}
use Rattle.lift_build.specs.declared.found.Ahead.TheVariants.{Known, Lifted}
use Rattle.lift_build.specs.declared.found.Search.{Search}
use Rattle.lift_build.specs.inner.Numbers.{IsNumber, IsAdded}
use Rattle.lift_build.specs.inner.Rooms.{room_left, IsUnder, IsLift}
use Rattle.lift_build.specs.inner.Searches.{IsDone, IsSound, IsSearch, PassesInto, MayPass, LiesFrom, LiesAhead, HasNumber, IsAhead, IsTake, state_of}
use Rattle.lift_build.proofs.Lifts.{room-target}
use Rattle.lift_build.proofs.Lifting.{piece-weight}
use Rattle.lift_build.proofs.Covering.{past-shown, done-under}
use Rattle.lift_build.proofs.Passing.{done-passes, may-next}

module _ {N : ℕ} (pieces : List (Piece N)) (cap : List ℕ) where
  pub lift-low : (s : State N) → IsLift pieces cap s → 1 ≤ s.piece
  lift-low s is = omega (arith, is.under.piece, reached-low pieces cap is.state is.reached)

  -- a take by the piece of the state
  pub take-step : (s next : LiftedState N) (piece : Piece N) → 1 ≤ s.piece → s.piece ≤ length pieces → piece ≡ get_or pieces (s.piece - 1) piece → IsTake piece cap s (Some next) → Step pieces cap (state_of s) (Carries s.piece) (state_of next)
  take-step s next piece low high at is =
      let parts = piece-weight pieces cap s.piece piece low high at in
      let w : piece.weight ≡ piece_weight pieces s.piece = sym parts.0 in
      let state : (l : List ℕ) → State N = λ l. record { piece = s.piece; copies = s.copies + 1; used = plus s.used l } in
      (refl, high, omega (arith, is.0, parts.1), subst (λ (l : List ℕ). AtMost (plus s.used l) cap) w is.1, ap (λ (t : LiftedState N). state_of t) is.2 ∙ ap state w)

  pub take-none : (s : LiftedState N) (piece : Piece N) → 1 ≤ s.piece → s.piece ≤ length pieces → piece ≡ get_or pieces (s.piece - 1) piece → IsTake piece cap s None → (t : State N) → Step pieces cap (state_of s) (Carries s.piece) t → ⊥
  take-none s piece low high at never t step =
      let parts = piece-weight pieces cap s.piece piece low high at in
      never (omega (arith, step.2, parts.1)) (subst (λ (l : List ℕ). AtMost (plus s.used l) cap) parts.0 step.3)

  -- while the next state that has a take is looked for
  pub pass-on : (s here : LiftedState N) (index : ℕ) (piece : Piece N) → MayPass pieces cap s index here → index < length pieces → piece ≡ get_or pieces index piece → IsTake piece cap here None → MayPass pieces cap s (index + 1) (record { piece = index + 2; copies = 0; used = s.used })
  pass-on s here index piece may within at none =
      ⊎_elim
      (λ there.
      let same : index ≡ here.piece - 1 = omega (arith, there.1) in
      may-next pieces cap s here (record { piece = index + 2; copies = 0; used = s.used }) index may within
      (take-none here piece (omega (arith, there.1)) there.2 (subst (λ (k : ℕ). piece ≡ get_or pieces k piece) same at) none) refl)
      (λ past. absurd (omega (arith, past.1)))
      may

  module _ (sized : length cap ≡ N) (room : ℕ) (search : Search N) (is : IsSearch pieces cap room search) where
    pub number-done : (s : LiftedState N) (number : ℕ) → HasNumber search s number → IsDone pieces cap search.labels search.arcs (state_of s) number
    number-done s number has = subst (λ (n : ℕ). IsDone pieces cap search.labels search.arcs (state_of s) n) has.2 (is.done has.0 s has.1)

    -- the target is done, and so is what passes into it
    pub from-target : (s : State N) → PassesInto pieces cap s (target pieces cap) → 1 ≤ length pieces → LiesFrom pieces cap search s (Known 1)
    from-target s passes some =
        let end = target pieces cap in
        let past : length pieces < end.piece = omega (arith, target-piece pieces cap some) in
        let label : IsNumber search.labels 1 (room_left pieces cap end) = subst (λ (l : List ℕ). IsNumber search.labels 1 l) (sym (room-target pieces cap)) is.sound.target in
        done-passes pieces cap sized search.labels search.arcs s end 1 passes (past-shown pieces cap sized search.labels search.arcs end 1 past label)

    -- behind the last piece lies the target
    pub skip-last : (s : State N) → IsLift pieces cap s → s.piece ≡ length pieces → LiesAhead pieces cap search s Loss (Known 1)
    skip-last s lift last = (target pieces cap, inr (last, refl), from-target (target pieces cap) (0, refl) (omega (arith, lift-low s lift)))

    pub from-under : (s t : State N) (lifted : LiftedState N) (ahead : Ahead N) → PassesInto pieces cap s t → IsUnder pieces cap t (state_of lifted) → lifted.piece ≤ length pieces → IsAhead search lifted ahead → LiesFrom pieces cap search s ahead
    from-under s t lifted (Known number) passes under within has =
        done-passes pieces cap sized search.labels search.arcs s t number passes
        (done-under pieces cap sized search.labels search.arcs t (state_of lifted) number under (number-done lifted number has))
    from-under s t lifted (Lifted next) passes under within same = (
      (t, passes, subst (λ (x : LiftedState N). IsUnder pieces cap t (state_of x)) (sym same) under),
      subst (λ (x : LiftedState N). x.piece ≤ length pieces) (sym same) within,
    )

    pub ahead-lies : (s t : State N) (m : Mark) (ahead : Ahead N) → Step pieces cap s m t → LiesFrom pieces cap search t ahead → LiesAhead pieces cap search s m ahead
    ahead-lies s t m (Known number) step from = (t, step, from)
    ahead-lies s t m (Lifted next) step from = (t, step, from.0, from.1)

  -- a search that has found the target's label alone
  pub start-sound : (old labels : List (List ℕ)) (n : ℕ) → old ≡ [] → IsAdded old labels cap n → IsSound pieces cap labels []
  start-sound old labels n none added =
      let one : labels ≡ cap ∷ [] = ⊎_elim
      (λ same. absurd (let e : length labels ≡ 0 = ap length (same ∙ none) in omega (arith, added.here.low, added.here.high)))
      (λ pushed. pushed ∙ ap (λ (ls : List (List ℕ)). ls ++ cap ∷ []) none)
      added.new_is in
      record {
        target = subst (λ (ls : List (List ℕ)). IsNumber ls 1 cap) (sym one) (record { low = omega arith; high = omega arith; here = λ d. refl });
        from_states = λ l m. ⊎_elim
            (λ same. (target pieces cap, target_reached pieces cap, room-target pieces cap ∙ same))
            (λ later. absurd (contains_nothing l later))
            (contains_cons cap [] l (subst (λ (ls : List (List ℕ)). Contains ls l) one m));
        from_steps = λ x m. absurd (contains_nothing x m);
        labels_apart = added.apart;
        arcs_apart = λ i j d lt within. absurd (omega arith);
      }

  pub start-search : (room : ℕ) (search : Search N) → IsSound pieces cap search.labels [] → search.arcs ≡ [] → search.states ≡ [] → search.numbers.items ≡ [] → IsSearch pieces cap room search
  start-search room search sound arcs states numbers = record {
    sound = subst (λ (es : List GraphArc). IsSound pieces cap search.labels es) (sym arcs) sound;
    roomy = omega (arith, ap length arcs);
    count = ap length numbers ∙ sym (ap length states);
    done = λ n s at. absurd (let e : length search.states ≡ 0 = ap length states in omega (arith, at.low, at.high));
  }
