-- The arc of a take or a skip from one state.
use Rattle.std.proofs.Common.{◌≡◌, ℕ, ◌+◌, ◌-◌, ◌<◌, ◌≤◌, ◌⊎◌, List, [], ◌∷◌, ◌++◌, length, get_or, refl, sym, ap, ◌∙◌, subst, inl, inr, ⊎_elim, Some, None, arith}
use Rattle.std.specs.Prelude.{Contains}
use Rattle.std.proofs.lemmas.Bool.{cases_lt, cases_eq, lt-ltb, le-ltb, eq-eqb, ne_eqb}
use Rattle.label_graph.specs.declared.parts.GraphArc.{GraphArc}
use Rattle.label_graph.specs.declared.parts.Piece.{Piece}
use Rattle.label_graph.specs.declared.parts.Mark.{Mark}
use Rattle.label_graph.specs.declared.parts.Mark.TheVariants.{Loss, Piece as Carries}
use Rattle.level_graph.specs.declared.states.State.{State}
use Rattle.level_graph.specs.Levels.{Step, IsReached, IsNode, target}
use Rattle.level_graph.specs.inner.Layers.{taken, skipped, AreStates, IsArcPushed, AppendsStep}
use Rattle.level_graph.proofs.Arcs.{node-same, node-contains}
use Rattle.level_graph.proofs.Reached.{next_reached, reached-low, take-step, step-take}

module _ {N : ℕ} (pieces : List (Piece N)) (room : List ℕ) where
  pub skipped-on : (s : State N) → s.piece < length pieces → skipped pieces room s ≡ Some (record { piece = s.piece + 1; copies = 0; used = s.used })
  skipped-on s lt = rw (lt-ltb s.piece (length pieces) lt) refl

  pub skipped-end : (s : State N) → s.piece ≡ length pieces → skipped pieces room s ≡ Some (target pieces room)
  skipped-end s e = rw (le-ltb s.piece (length pieces) (omega arith), eq-eqb s.piece (length pieces) e) refl

  pub skipped-past : (s : State N) → length pieces < s.piece → skipped pieces room s ≡ None
  skipped-past s lt = rw (le-ltb s.piece (length pieces) (omega arith), ne_eqb s.piece (length pieces) (omega arith)) refl

  pub skip-step : (s t : State N) → skipped pieces room s ≡ Some t → Step pieces room s Loss t
  skip-step s t h =
      ⊎_elim
      (λ lt. let e : Some (record { piece = s.piece + 1; copies = 0; used = s.used }) ≡ Some t = sym (skipped-on s lt) ∙ h in inl (lt, cc))
      (λ ge. ⊎_elim
      (λ same. let e : Some (target pieces room) ≡ Some t = sym (skipped-end s same) ∙ h in inr (same, cc))
      (λ apart. absurd (let bad : None ≡ Some t = sym (skipped-past s (omega arith)) ∙ h in cc))
      (cases_eq s.piece (length pieces)))
      (cases_lt s.piece (length pieces))

  pub step-skip : (s t : State N) → Step pieces room s Loss t → skipped pieces room s ≡ Some t
  step-skip s t step =
      ⊎_elim
      (λ w. skipped-on s w.0 ∙ ap Some (sym w.1))
      (λ w. skipped-end s w.0 ∙ ap Some (sym w.1))
      step

  module _ (states : List (State N)) (are : AreStates pieces room states) (index : ℕ) (lt : index < length states) (s : State N) (at : s ≡ get_or states index s) where
    pub here : IsNode states (index + 1) s
    here = let same : index + 1 - 1 ≡ index = omega arith in (omega arith, omega arith, subst (λ (i : ℕ). get_or states i s ≡ s) (sym same) (sym at))

    pub here-reached : IsReached pieces room s
    here-reached = (are.reached s).0 (node-contains states (index + 1) s here)

    pub here-low : 1 ≤ s.piece
    here-low = reached-low pieces room s here-reached

    pub step-contained : (t : State N) (m : Mark) → Step pieces room s m t → Contains states t
    step-contained t m step = (are.reached t).1 (next_reached pieces room s t m here-reached step)

    -- a step, and its arc
    pub appends-one : (mark : State N → Mark) (t : State N) (v : ℕ) (old : List GraphArc) → Step pieces room s (mark s) t → IsNode states v t → AppendsStep pieces room states index mark old (old ++ record { tail = index + 1; head = v; mark = mark s } ∷ [])
    appends-one mark t v old step node s' node' =
        let arc : GraphArc = record { tail = index + 1; head = v; mark = mark s } in
        subst (λ (z : State N). ((u : State N) × Step pieces room z (mark z) u × IsArcPushed states index (mark z) u old (old ++ arc ∷ [])) ⊎ (((u : State N) → Step pieces room z (mark z) u → ⊥) × (old ++ arc ∷ [] ≡ old)))
        (node-same states (index + 1) s s' here node')
        (inl (t, step, record { arc = arc; tail_is = refl; head_at = node; mark_is = refl; pushed = refl }))

    -- no step, and no arc
    pub appends-none : (mark : State N → Mark) (old : List GraphArc) → ((t : State N) → Step pieces room s (mark s) t → ⊥) → AppendsStep pieces room states index mark old old
    appends-none mark old none s' node' =
        subst (λ (z : State N). ((u : State N) × Step pieces room z (mark z) u × IsArcPushed states index (mark z) u old old) ⊎ (((u : State N) → Step pieces room z (mark z) u → ⊥) × (old ≡ old)))
        (node-same states (index + 1) s s' here node')
        (inr (none, refl))

    module _ (piece : Piece N) (low : s.piece ≤ length pieces) (is : piece ≡ get_or pieces (s.piece - 1) piece) where
      pub take-is_step : (t : State N) → taken piece room s ≡ Some t → Step pieces room s (Carries s.piece) t
      take-is_step t h = let first = here-low in take-step pieces room (s.piece - 1) piece (omega arith) (sym is) s t (omega arith) h

      pub step-is_take : (t : State N) → Step pieces room s (Carries s.piece) t → taken piece room s ≡ Some t
      step-is_take t step = let first = here-low in step-take pieces room (s.piece - 1) piece (omega arith) (sym is) s t s.piece (omega arith) step
