-- Which states are reached, piece by piece.
use Rattle.std.proofs.Common.{◌≡◌, ℕ, zero, suc, ◌+◌, ◌-◌, ◌<◌, ◌≤◌, ◌⊎◌, ◌↔◌, List, [], ◌∷◌, length, get_or, map, replicate, refl, sym, ap, ◌∙◌, subst, inl, inr, ⊎_elim, Some, arith}
use Rattle.std.specs.Prelude.{Contains}
use Rattle.std.specs.List.{filter_map}
use Rattle.std.proofs.lemmas.Bool.{cases_lt}
use Rattle.std.proofs.lemmas.List.{get_or-map}
use Rattle.std.proofs.lemmas.List.Elements.{Contains-append_left, Contains-append_right, Contains-append_cases, All-contains}
use Rattle.label_graph.specs.declared.parts.Piece.{Piece}
use Rattle.label_graph.specs.declared.parts.Mark.{Mark}
use Rattle.label_graph.specs.declared.parts.Mark.TheVariants.{Loss, Piece as Carries}
use Rattle.label_graph.specs.Graph.{piece_weight}
use Rattle.level_graph.specs.declared.states.State.{State}
use Rattle.level_graph.specs.Levels.{Step, ReachedIn, IsReached, source, target, piece_copies}
use Rattle.level_graph.specs.inner.Layers.{taken, entered, IsLayer}
use Rattle.level_graph.proofs.Members.{contains_filter_map, from_filter_map, contains_map, from_map}
use Rattle.level_graph.proofs.Takes.{taken-is, taken-some}
use Rattle.level_graph.proofs.LayerSteps.{entry}

module _ {N : ℕ} (pieces : List (Piece N)) (room : List ℕ) where
  pub next_reached : (r s : State N) (m : Mark) → IsReached pieces room r → Step pieces room r m s → IsReached pieces room s
  next_reached r s m from step = (suc from.0, (r, from.1, (m, step)))

  pub source_reached : IsReached pieces room (source N)
  source_reached = (zero, refl)

  -- with some pieces the target stands past them all
  pub target-piece : 1 ≤ length pieces → (target pieces room).piece ≡ length pieces + 1
  target-piece = at pieces
    where
      at : (ps : List (Piece N)) → 1 ≤ length ps → (target ps room).piece ≡ length ps + 1
      at [] h = absurd (omega arith)
      at (p ∷ ps) h = refl

  -- x is a weight at which piece k + 1 is entered
  abbrev pub Enters : ℕ → List ℕ → Type 0
  Enters zero x = x ≡ replicate N 0
  Enters (suc k) x = (s : State N) × IsReached pieces room s × (s.piece ≡ suc k) × (s.used ≡ x)

  abbrev pub at_start : ℕ → List ℕ → State N
  at_start p x = record { piece = p; copies = 0; used = x }

  -- what enters a piece is reached there
  pub enters-reached : (k : ℕ) (x : List ℕ) → k < length pieces → Enters k x → IsReached pieces room (at_start (k + 1) x)
  enters-reached zero x lt e = subst (λ (y : List ℕ). IsReached pieces room (at_start 1 y)) (sym e) source_reached
  enters-reached (suc k) x lt e =
      let here : e.0.piece ≡ suc k = e.2 in
      let low : e.0.piece < length pieces = omega arith in
      let next : IsReached pieces room (at_start (e.0.piece + 1) e.0.used) = next_reached e.0 (at_start (e.0.piece + 1) e.0.used) Loss e.1 (inl (low, refl)) in
      subst (λ (y : List ℕ). IsReached pieces room (at_start (suc k + 1) y)) e.3 (subst (λ (n : ℕ). IsReached pieces room (at_start n e.0.used)) (omega arith) next)

  -- each state that is reached stands at a piece
  step-low : (r s : State N) (m : Mark) → 1 ≤ r.piece → Step pieces room r m s → 1 ≤ s.piece
  step-low r s (Carries p) low step = let same : s.piece ≡ r.piece = ap (λ (z : State N). z.piece) step.4 in omega arith
  step-low r s Loss low step =
      ⊎_elim
      (λ w. let same : s.piece ≡ r.piece + 1 = ap (λ (z : State N). z.piece) w.1 in omega arith)
      (λ w. let same : s.piece ≡ (target pieces room).piece = ap (λ (z : State N). z.piece) w.1 in
      let some : 1 ≤ length pieces = omega arith in
      omega (arith, target-piece some))
      step

  reached-low_at : (n : ℕ) (s : State N) → ReachedIn pieces room n s → 1 ≤ s.piece
  reached-low_at zero s h = let same : s.piece ≡ 1 = ap (λ (z : State N). z.piece) h in omega arith
  reached-low_at (suc n) s h = step-low h.0 s h.2.0 (reached-low_at n h.0 h.1) h.2.1

  pub reached-low : (s : State N) → IsReached pieces room s → 1 ≤ s.piece
  reached-low s h = reached-low_at h.0 s h.1

  pub target-source : length pieces ≡ 0 → target pieces room ≡ source N
  target-source = at pieces
    where
      at : (ps : List (Piece N)) → length ps ≡ 0 → target ps room ≡ source N
      at [] h = refl
      at (p ∷ ps) h = absurd (omega arith)

  step-end : (r s : State N) (m : Mark) → Step pieces room r m s → (s.piece ≤ length pieces) ⊎ (s ≡ target pieces room)
  step-end r s (Carries p) step = let same : s.piece ≡ r.piece = ap (λ (z : State N). z.piece) step.4 in inl (omega (arith, step.1))
  step-end r s Loss step =
      ⊎_elim
      (λ w. let same : s.piece ≡ r.piece + 1 = ap (λ (z : State N). z.piece) w.1 in inl (omega (arith, w.0)))
      (λ w. inr w.1)
      step

  -- what is reached stands at a piece or is the target
  reached-end_at : (n : ℕ) (s : State N) → ReachedIn pieces room n s → (s.piece ≤ length pieces) ⊎ (s ≡ target pieces room)
  reached-end_at zero s h =
      ⊎_elim
      (λ some. let same : s.piece ≡ 1 = ap (λ (z : State N). z.piece) h in inl (omega arith))
      (λ none. inr (h ∙ sym (target-source (omega arith))))
      (cases_lt 0 (length pieces))
  reached-end_at (suc n) s h = step-end h.0 s h.2.0 h.2.1

  pub reached-end : (s : State N) → IsReached pieces room s → (s.piece ≤ length pieces) ⊎ (s ≡ target pieces room)
  reached-end s h = reached-end_at h.0 s h.1

  start_reached : (j : ℕ) → j < length pieces → IsReached pieces room (at_start (j + 1) (replicate N 0))
  start_reached zero lt = source_reached
  start_reached (suc j) lt =
      let low : j + 1 < length pieces = omega arith in
      let next : IsReached pieces room (at_start (j + 1 + 1) (replicate N 0)) = next_reached (at_start (j + 1) (replicate N 0)) (at_start (j + 1 + 1) (replicate N 0)) Loss (start_reached j (omega arith)) (inl (low, refl)) in
      subst (λ (n : ℕ). IsReached pieces room (at_start n (replicate N 0))) (omega arith) next

  pub target_reached : IsReached pieces room (target pieces room)
  target_reached =
      ⊎_elim
      (λ some.
      let last : length pieces - 1 + 1 ≡ length pieces = omega arith in
      next_reached (at_start (length pieces - 1 + 1) (replicate N 0)) (target pieces room) Loss (start_reached (length pieces - 1) (omega arith)) (inr (last, refl)))
      (λ none. subst (λ (z : State N). IsReached pieces room z) (sym (target-source (omega arith))) source_reached)
      (cases_lt 0 (length pieces))

  enters-zero : (k : ℕ) → k ≡ 0 → Enters k (replicate N 0)
  enters-zero k e = subst (λ (n : ℕ). Enters n (replicate N 0)) (sym e) refl

  enters-from : (k : ℕ) (r : State N) → IsReached pieces room r → r.piece ≡ k → Enters k r.used
  enters-from zero r h e = absurd (omega (arith, reached-low r h))
  enters-from (suc k) r h e = (r, h, e, refl)

module _ {N : ℕ} (pieces : List (Piece N)) (room : List ℕ) (k : ℕ) (piece : Piece N) (lt : k < length pieces) (at : get_or pieces k piece ≡ piece) where
  weight_at : (p : ℕ) → p ≡ k + 1 → piece_weight pieces p ≡ piece.weight
  weight_at p e =
      let i : p - 1 ≡ k = omega arith in
      let there : get_or (map (λ (q : Piece N). q.weight) pieces) k [] ≡ piece.weight = get_or-map (λ (q : Piece N). q.weight) pieces k piece [] lt ∙ ap (λ (q : Piece N). q.weight) at in
      rw i there

  copies_at : (p : ℕ) → p ≡ k + 1 → piece_copies pieces p ≡ piece.copies
  copies_at p e =
      let i : p - 1 ≡ k = omega arith in
      let copies : Piece N → ℕ = λ q. q.copies in
      let there : get_or (map copies pieces) k 0 ≡ piece.copies = get_or-map copies pieces k piece 0 lt ∙ ap copies at in
      rw i there

  -- a take at the piece is a step
  pub take-step : (r s : State N) → r.piece ≡ k + 1 → taken piece room r ≡ Some s → Step pieces room r (Carries r.piece) s
  take-step r s here gives =
      let is = taken-is piece room r s gives in
      let copies = copies_at r.piece here in
      let weight = weight_at r.piece here in
      (refl, omega arith, omega (arith, is.0), rw weight is.1, rw weight is.2)

  pub step-take : (r s : State N) (p : ℕ) → r.piece ≡ k + 1 → Step pieces room r (Carries p) s → taken piece room r ≡ Some s
  step-take r s p here step =
      let copies = copies_at r.piece here in
      let weight = weight_at r.piece here in
      let low : r.copies < piece.copies = omega (arith, step.2) in
      taken-some piece room r low (rw weight at step.3) ∙ ap Some (sym (rw weight at step.4))

  module _ (entering : List (List ℕ)) (enters : (x : List ℕ) → Contains entering x ↔ Enters pieces room k x) (layer : List (State N)) (is : IsLayer (k + 1) piece room entering layer) where
    -- a state at the piece enters it, or follows another one
    layer-cases : (s : State N) → Contains layer s → IsReached pieces room s ⊎ ((r : State N) × Contains layer r × (taken piece room r ≡ Some s))
    layer-cases s m =
        ⊎_elim
        (λ h. let from = from_map (entry {N = N} (k + 1)) entering s h in
        inl (subst (λ (z : State N). IsReached pieces room z) from.2 (enters-reached pieces room k from.0 lt ((enters from.0).0 from.1))))
        (λ h. inr (from_filter_map (taken piece room) layer s h))
        (Contains-append_cases (entered (k + 1) entering) (filter_map (taken piece room) layer) s (subst (λ (zs : List (State N)). Contains zs s) is.whole m))

    pub layer-here : (s : State N) → Contains layer s → s.piece ≡ k + 1
    layer-here s m = All-contains (λ (z : State N). z.piece ≡ k + 1) layer s is.here m

    layer-sound_by : (n : ℕ) (s : State N) → Contains layer s → s.copies ≤ n → IsReached pieces room s
    layer-sound_by zero s m le =
        ⊎_elim
        (λ reached. reached)
        (λ w. let more : s.copies ≡ w.0.copies + 1 = ap (λ (z : State N). z.copies) (taken-is piece room w.0 s w.2).2 in absurd (omega arith))
        (layer-cases s m)
    layer-sound_by (suc n) s m le =
        ⊎_elim
        (λ reached. reached)
        (λ w.
        let more : s.copies ≡ w.0.copies + 1 = ap (λ (z : State N). z.copies) (taken-is piece room w.0 s w.2).2 in
        next_reached pieces room w.0 s (Carries w.0.piece) (layer-sound_by n w.0 w.1 (omega arith)) (take-step w.0 s (layer-here w.0 w.1) w.2))
        (layer-cases s m)

    pub layer-sound : (s : State N) → Contains layer s → IsReached pieces room s
    layer-sound s m = layer-sound_by s.copies s m (omega arith)

    enters-layer : (x : List ℕ) (s : State N) → Enters pieces room k x → s ≡ at_start pieces room (k + 1) x → Contains layer s
    enters-layer x s e same =
        let first : Contains (entered {N = N} (k + 1) entering) (at_start pieces room (k + 1) x) = contains_map (entry {N = N} (k + 1)) entering x ((enters x).1 e) in
        subst (λ (z : State N). Contains layer z) (sym same) (subst (λ (zs : List (State N)). Contains zs (at_start pieces room (k + 1) x)) (sym is.whole) (Contains-append_left (entered (k + 1) entering) (filter_map (taken piece room) layer) (at_start pieces room (k + 1) x) first))

    step-layer : (r s : State N) (m : Mark) → IsReached pieces room r → (r.piece ≡ k + 1 → Contains layer r) → Step pieces room r m s → s.piece ≡ k + 1 → Contains layer s
    step-layer r s (Carries p) reached before step here =
        let same : s.piece ≡ r.piece = ap (λ (z : State N). z.piece) step.4 in
        let r_here : r.piece ≡ k + 1 = omega arith in
        let next : Contains (filter_map (taken piece room) layer) s = contains_filter_map (taken piece room) layer r s (before r_here) (step-take r s p r_here step) in
        subst (λ (zs : List (State N)). Contains zs s) (sym is.whole) (Contains-append_right (entered (k + 1) entering) (filter_map (taken piece room) layer) s next)
    step-layer r s Loss reached before step here =
        ⊎_elim
        (λ w.
        let up : s.piece ≡ r.piece + 1 = ap (λ (z : State N). z.piece) w.1 in
        let r_here : r.piece ≡ k = omega arith in
        enters-layer r.used s (enters-from pieces room k r reached r_here) (subst (λ (n : ℕ). s ≡ at_start pieces room n r.used) (omega arith) w.1))
        (λ w.
        let end : s.piece ≡ (target pieces room).piece = ap (λ (z : State N). z.piece) w.1 in
        absurd (omega (arith, target-piece pieces room (omega arith))))
        step

    layer-complete_at : (n : ℕ) (s : State N) → ReachedIn pieces room n s → s.piece ≡ k + 1 → Contains layer s
    layer-complete_at zero s h here =
        let first : s.piece ≡ 1 = ap (λ (z : State N). z.piece) h in
        let none : k ≡ 0 = omega arith in
        enters-layer (replicate N 0) s (enters-zero pieces room k none) (subst (λ (n : ℕ). s ≡ at_start pieces room n (replicate N 0)) (omega arith) h)
    layer-complete_at (suc n) s h here = step-layer h.0 s h.2.0 (n, h.1) (layer-complete_at n h.0 h.1) h.2.1 here

    pub layer-complete : (s : State N) → IsReached pieces room s → s.piece ≡ k + 1 → Contains layer s
    layer-complete s h here = layer-complete_at h.0 s h.1 here
