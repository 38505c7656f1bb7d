-- Each content that is there and fits a type is that of a path of joint levels to the type's target.
use Rattle.std.proofs.Common.{◌≡◌, ℕ, zero, suc, ◌+◌, ◌-◌, ◌*◌, ◌<◌, ◌≤◌, ◌⊎◌, ◌↔◌, List, [], ◌∷◌, ◌++◌, length, get_or, map, refl, sym, ap, ◌∙◌, subst, arith, append_assoc}
use Rattle.std.specs.Prelude.{Contains}
use Rattle.std.specs.List.Sorted.{IsStrictlySortedBy}
use Rattle.std.proofs.lemmas.List.{get_or-map, length-append}
use Rattle.std.proofs.Math.Seq.{get_or-append_seam}
use Rattle.weight_vec.specs.Weight.{plus}
use Rattle.weight_vec.proofs.Places.{get_or-plus, get_or-zeros}
use Rattle.label_graph.specs.declared.parts.GraphArc.{GraphArc}
use Rattle.label_graph.specs.declared.parts.Piece.{Piece}
use Rattle.label_graph.specs.declared.parts.Mark.{Mark}
use Rattle.label_graph.specs.declared.parts.Mark.TheVariants.{Loss, Piece as Carries}
use Rattle.label_graph.specs.Graph.{IsPath, IsContent, piece_weight}
use Rattle.level_graph.specs.Levels.{piece_copies}
use Rattle.level_graph.specs.LevelLaws.{content_weight, IsChoice}
use Rattle.level_graph.proofs.Leading.{marks_along, copies_in, copies-marks}
use Rattle.level_graph.proofs.Choices.{marks_of, takes_then, copies-of}
use Rattle.joint_graph.specs.declared.states.State.{State}
use Rattle.joint_graph.specs.Numbers.{IsNumber}
use Rattle.joint_graph.specs.Joints.{IsType, cap_at}
use Rattle.joint_graph.specs.JointLevels.{Step, IsReached, IsStepArc, IsEndArc, state_cmp, source}
use Rattle.joint_graph.proofs.FoundStates.{reached-step, zeros-fit}
use Rattle.joint_graph.proofs.LevelPaths.{node-of, step-path, end-path, source-at}

module _ {N : ℕ} (pieces : List (Piece N)) where
  abbrev weight_of : ℕ → ℕ → ℕ
  weight_of p d = get_or (piece_weight pieces p) d 0

  -- what the copies of the pieces from p on weigh
  abbrev weight_from : ℕ → ℕ → List ℕ → ℕ
  weight_from p d [] = 0
  weight_from p d (n ∷ content) = n * weight_of p d + weight_from (p + 1) d content

  -- the weight of a content, piece by piece
  weights-same : (front ps : List (Piece N)) (content : List ℕ) (p d : ℕ) → pieces ≡ front ++ ps → p ≡ length front + 1 → length content ≡ length ps → content_weight ps d content ≡ weight_from p d content
  weights-same front [] [] p d split at sized = refl
  weights-same front [] (n ∷ content) p d split at sized = absurd (omega arith)
  weights-same front (q ∷ ps) [] p d split at sized = absurd (omega arith)
  weights-same front (q ∷ ps) (n ∷ content) p d split at sized =
      let index : p - 1 ≡ length front = omega arith in
      let lt : length front < length (front ++ q ∷ ps) = omega (arith, length-append front (q ∷ ps)) in
      let seam : get_or (map (λ (z : Piece N). z.weight) (front ++ q ∷ ps)) (length front) [] ≡ q.weight = get_or-map (λ (z : Piece N). z.weight) (front ++ q ∷ ps) (length front) q [] lt ∙ ap (λ (z : Piece N). z.weight) (get_or-append_seam front q ps q) in
      let here : piece_weight pieces p ≡ q.weight = rw (index, split) seam in
      let weight : weight_of p d ≡ get_or q.weight d 0 = ap (λ (w : List ℕ). get_or w d 0) here in
      let rest : content_weight ps d content ≡ weight_from (p + 1) d content = weights-same (front ++ q ∷ []) ps content (p + 1) d (split ∙ sym (append_assoc front (q ∷ []) ps)) (omega (arith, length-append front (q ∷ []))) (omega arith) in
      let product : n * weight_of p d ≡ n * get_or q.weight d 0 = ap (λ (w : ℕ). n * w) weight in
      omega arith

  module _ (caps : List (List ℕ)) (states : List (State N)) (up : IsStrictlySortedBy state_cmp states) (reached : (s : State N) → Contains states s ↔ IsReached pieces caps s) (arcs : List GraphArc) (arcs_are : (e : GraphArc) → Contains arcs e ↔ (IsStepArc pieces caps states e ⊎ IsEndArc pieces caps states e)) (t : ℕ) (is_type : IsType caps t) where
    abbrev state : ℕ → ℕ → List ℕ → State N
    state p c x = record { piece = p; copies = c; used = x }

    abbrev room : ℕ → ℕ
    room d = get_or (cap_at caps t) d 0

    -- a path with these marks leads to the target
    abbrev Goes : ℕ → List Mark → Type 0
    Goes v marks = (path : List GraphArc) × IsPath arcs v (length states + t) path × (marks_along path ≡ marks)

    takes-go : (n p c : ℕ) (x : List ℕ) (v : ℕ) (marks : List Mark) → IsReached pieces caps (state p c x) → IsNumber states v (state p c x) → p ≤ length pieces → c + n ≤ piece_copies pieces p → ((d : ℕ) → get_or x d 0 + n * weight_of p d ≤ room d) → ((k : ℕ) (y : List ℕ) (w : ℕ) → IsReached pieces caps (state p k y) → IsNumber states w (state p k y) → ((d : ℕ) → get_or y d 0 ≡ get_or x d 0 + n * weight_of p d) → Goes w marks) → Goes v (takes_then p n marks)
    takes-go zero p c x v marks h number low copies fits on = on c x v h number (λ d. omega arith)
    takes-go (suc n) p c x v marks h number low copies fits on =
        let y : List ℕ = plus x (piece_weight pieces p) in
        let step : Step pieces caps (state p c x) (Carries p) (state p (c + 1) y) = (refl, low, omega arith, (t, is_type, λ d. omega (arith, fits d, get_or-plus x (piece_weight pieces p) d)), refl) in
        let next = reached-step pieces caps (state p c x) (state p (c + 1) y) (Carries p) h step in
        let node = node-of pieces caps states up reached arcs arcs_are (state p (c + 1) y) next in
        let rest = takes-go n p (c + 1) y node.0 marks next node.1 low (omega arith) (λ d. omega (arith, fits d, get_or-plus x (piece_weight pieces p) d)) (λ k z w is at same. on k z w is at (λ d. omega (arith, same d, get_or-plus x (piece_weight pieces p) d))) in (
          record { tail = v; head = node.0; mark = Carries p } ∷ rest.0,
          (step-path pieces caps states up reached arcs arcs_are (state p c x) (state p (c + 1) y) (Carries p) v node.0 number node.1 step, refl, rest.1),
          ap (λ (ms : List Mark). Carries p ∷ ms) rest.2,
        )

    rest-goes : (rest : List ℕ) (p c : ℕ) (x : List ℕ) (v : ℕ) → IsReached pieces caps (state p c x) → IsNumber states v (state p c x) → p + length rest ≡ length pieces → ((i : ℕ) → i < length rest → get_or rest i 0 ≤ piece_copies pieces (p + 1 + i)) → ((d : ℕ) → get_or x d 0 + weight_from (p + 1) d rest ≤ room d) → Goes v (Loss ∷ marks_of (p + 1) rest)
    rest-goes [] p c x v h number whole more fits = (
      record { tail = v; head = length states + t; mark = Loss } ∷ [],
      (end-path pieces caps states up reached arcs arcs_are (state p c x) v t number (omega (arith, whole)) is_type (λ d. omega (arith, fits d)), refl, refl),
      refl,
    )
    rest-goes (n ∷ rest) p c x v h number whole more fits =
        let same : p + 1 + 0 ≡ p + 1 = omega arith in
        let copies : n ≤ piece_copies pieces (p + 1) = subst (λ (q : ℕ). n ≤ piece_copies pieces q) same (more 0 (omega arith)) in
        let step : Step pieces caps (state p c x) Loss (state (p + 1) 0 x) = (omega arith, refl) in
        let next = reached-step pieces caps (state p c x) (state (p + 1) 0 x) Loss h step in
        let node = node-of pieces caps states up reached arcs arcs_are (state (p + 1) 0 x) next in
        let on = takes-go n (p + 1) 0 x node.0 (Loss ∷ marks_of (p + 1 + 1) rest) next node.1 (omega arith) (omega arith) (λ d. omega (arith, fits d))
        (λ k y w is at equal. rest-goes rest (p + 1) k y w is at (omega arith)
        (λ i lt. let shift : p + 1 + suc i ≡ p + 1 + 1 + i = omega arith in subst (λ (q : ℕ). get_or rest i 0 ≤ piece_copies pieces q) shift (more (suc i) (omega arith)))
        (λ d. omega (arith, fits d, equal d))) in (
          record { tail = v; head = node.0; mark = Loss } ∷ on.0,
          (step-path pieces caps states up reached arcs arcs_are (state p c x) (state (p + 1) 0 x) Loss v node.0 number node.1 step, refl, on.1),
          ap (λ (ms : List Mark). Loss ∷ ms) on.2,
        )

    first-at : IsNumber states 1 (source N)
    first-at = source-at pieces caps states up reached arcs arcs_are

    pub choice-path : (content : List ℕ) → IsChoice pieces (cap_at caps t) content → (path : List GraphArc) × IsPath arcs 1 (length states + t) path × IsContent (length pieces) content path
    choice-path [] choice = (
      record { tail = 1; head = length states + t; mark = Loss } ∷ [],
      (end-path pieces caps states up reached arcs arcs_are (source N) 1 t first-at (omega (arith, choice.whole)) is_type (zeros-fit pieces caps t), refl, refl),
      record { whole = choice.whole; copies = λ p lt. absurd (omega (arith, lt, choice.whole)) },
    )
    choice-path (n ∷ rest) choice =
        let sized : 1 + length rest ≡ length pieces = omega (arith, choice.whole) in
        let fits : (d : ℕ) → get_or (source N).used d 0 + n * weight_of 1 d + weight_from (1 + 1) d rest ≤ room d = λ d. omega (arith, choice.fits d, weights-same [] pieces (n ∷ rest) 1 d refl (omega arith) choice.whole, get_or-zeros N d) in
        let found = takes-go n 1 0 (source N).used 1 (Loss ∷ marks_of (1 + 1) rest) (0, refl) first-at (omega arith) (omega (arith, choice.copies 0 (omega arith))) (λ d. omega (arith, fits d))
        (λ c y w is at equal. rest-goes rest 1 c y w is at sized
        (λ i lt. let same : suc i + 1 ≡ 1 + 1 + i = omega arith in subst (λ (q : ℕ). get_or rest i 0 ≤ piece_copies pieces q) same (choice.copies (suc i) (omega arith)))
        (λ d. omega (arith, fits d, equal d))) in (
          found.0,
          found.1,
          record {
            whole = choice.whole;
            copies = λ p lt.
                let same : 1 + p ≡ p + 1 = omega arith in
                copies-marks (p + 1) found.0 ∙ ap (copies_in (p + 1)) found.2 ∙ subst (λ (q : ℕ). copies_in q (marks_of 1 (n ∷ rest)) ≡ get_or (n ∷ rest) p 0) same (copies-of (n ∷ rest) 1 p (omega (arith, lt, choice.whole)));
          },
        )
