-- When one more copy is taken.
use Rattle.std.proofs.Common.{◌≡◌, ℕ, ◌+◌, ◌-◌, ◌<◌, ◌≤◌, List, [], length, get_or, refl, sym, ap, ◌∙◌, subst, arith}
use Rattle.std.specs.Prelude.{All}
use Rattle.std.proofs.lemmas.List.{get_or-map}
use Rattle.weight_vec.specs.Weight.{IsInRange, plus}
use Rattle.label_graph.specs.declared.parts.Piece.{Piece}
use Rattle.label_graph.specs.declared.parts.Mark.TheVariants.{Piece as Carries}
use Rattle.label_graph.specs.Graph.{piece_weight}
use Rattle.level_graph.specs.Levels.{piece_copies}
use Rattle.joint_graph.specs.declared.states.State.{State}
use Rattle.joint_graph.specs.Joints.{FitsSome}
use Rattle.joint_graph.specs.JointLevels.{Step}

module _ {N : ℕ} (pieces : List (Piece N)) (caps : List (List ℕ)) (s : State N) where
  pub take-past : length pieces < s.piece → (t : State N) → Step pieces caps s (Carries s.piece) t → ⊥
  take-past past t step = omega (arith, past, step.1)

  module _ (q : Piece N) (low : 1 ≤ s.piece) (high : s.piece ≤ length pieces) (at : q ≡ get_or pieces (s.piece - 1) q) where
    copies-are : piece_copies pieces s.piece ≡ q.copies
    copies-are = get_or-map (λ (z : Piece N). z.copies) pieces (s.piece - 1) q 0 (omega arith) ∙ ap (λ (z : Piece N). z.copies) (sym at)

    weight-is : piece_weight pieces s.piece ≡ q.weight
    weight-is = get_or-map (λ (z : Piece N). z.weight) pieces (s.piece - 1) q [] (omega arith) ∙ ap (λ (z : Piece N). z.weight) (sym at)

    pub take-spent : q.copies ≤ s.copies → (t : State N) → Step pieces caps s (Carries s.piece) t → ⊥
    take-spent spent t step = omega (arith, spent, step.2, copies-are)

    pub take-unfit : (FitsSome caps (plus s.used q.weight) → ⊥) → (t : State N) → Step pieces caps s (Carries s.piece) t → ⊥
    take-unfit never t step = never (subst (λ (w : List ℕ). FitsSome caps (plus s.used w)) weight-is step.3)

    pub take-over : All (λ (l : List ℕ). IsInRange l) caps → (IsInRange (plus s.used q.weight) → ⊥) → (t : State N) → Step pieces caps s (Carries s.piece) t → ⊥
    take-over ranged never = take-unfit (λ fits. never (λ d. omega (arith, fits.2 d, ranged (fits.0 - 1) [] (omega (arith, fits.1.0, fits.1.1)) d)))

    pub take-made : s.copies < q.copies → (used : List ℕ) → used ≡ plus s.used q.weight → FitsSome caps used → Step pieces caps s (Carries s.piece) (record { piece = s.piece; copies = s.copies + 1; used = used })
    take-made more used is fits =
        let same : used ≡ plus s.used (piece_weight pieces s.piece) = is ∙ ap (plus s.used) (sym weight-is) in (
          refl,
          high,
          omega (arith, more, copies-are),
          subst (λ (w : List ℕ). FitsSome caps w) same fits,
          λ i. record { piece = s.piece; copies = s.copies + 1; used = same i },
        )
