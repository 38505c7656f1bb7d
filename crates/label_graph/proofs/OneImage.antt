-- There is but one image: lists in order with the same members are equal.
use Rattle.std.proofs.Common.{◌≡◌, ℕ, List, [], ◌∷◌, refl, sym, ◌∙◌, subst, ⊎_elim, arith}
use Rattle.std.specs.Prelude.{Contains, AllPairs}
use Rattle.weight_vec.specs.Weight.{Before}
use Rattle.label_graph.specs.declared.parts.Mark.{Mark}
use Rattle.label_graph.specs.declared.parts.Mark.TheVariants.{Loss, Piece as Carries}
use Rattle.label_graph.specs.declared.parts.GraphArc.{GraphArc}
use Rattle.label_graph.specs.Graph.{GraphValue, ArcBefore, MarkBefore}
use Rattle.label_graph.specs.Images.{IsImage, BecomesArc}
use Rattle.label_graph.proofs.Members.{contains_cons, contains_here, contains_there, contains_nothing}
use Rattle.label_graph.proofs.InOrder.{first-before, rest-up}
use Rattle.label_graph.proofs.Merging.{before-one_way}

module _ {X : Type 0} (R : X → X → Type 0) (one_way : (x y : X) → R x y → R y x → ⊥) where
  -- what is in order behind the first element is not that element
  rest-member : (x y : X) (xs ys : List X) → AllPairs R (x ∷ xs) → x ≡ y → ((z : X) → Contains (x ∷ xs) z → Contains (y ∷ ys) z) → (z : X) → Contains xs z → Contains ys z
  rest-member x y xs ys up same there z m =
      ⊎_elim
      (λ e. let itself : R x x = subst (λ (w : X). R x w) (sym (same ∙ e)) (first-before R x xs z up m) in absurd (one_way x x itself itself))
      (λ late. late)
      (contains_cons y ys z (there z (contains_there x xs z m)))

  pub same-list : (xs ys : List X) → AllPairs R xs → AllPairs R ys → ((x : X) → Contains xs x → Contains ys x) → ((x : X) → Contains ys x → Contains xs x) → xs ≡ ys
  same-list [] [] up down there back = refl
  same-list [] (y ∷ ys) up down there back = absurd (contains_nothing y (back y (contains_here y ys)))
  same-list (x ∷ xs) [] up down there back = absurd (contains_nothing x (there x (contains_here x xs)))
  same-list (x ∷ xs) (y ∷ ys) up down there back =
      let same : x ≡ y =
      ⊎_elim
      (λ e. sym e)
      (λ late. ⊎_elim (λ e. e) (λ after. absurd (one_way x y (first-before R x xs y up after) (first-before R y ys x down late))) (contains_cons x xs y (back y (contains_here y ys))))
      (contains_cons y ys x (there x (contains_here x xs))) in
      let rest = same-list xs ys (rest-up R x xs up) (rest-up R y ys down) (rest-member x y xs ys up same there) (rest-member y x ys xs down (sym same) back) in
      λ i. same i ∷ rest i

mark-one_way : (m n : Mark) → MarkBefore m n → MarkBefore n m → ⊥
mark-one_way Loss Loss h k = h
mark-one_way Loss (Carries q) h k = k
mark-one_way (Carries p) Loss h k = h
mark-one_way (Carries p) (Carries q) h k = omega arith

pub arc-one_way : (e f : GraphArc) → ArcBefore e f → ArcBefore f e → ⊥
arc-one_way e f h k =
    ⊎_elim
    (λ lt. ⊎_elim (λ gt. omega arith) (λ w. omega (arith, w.0)) k)
    (λ v. ⊎_elim
    (λ gt. omega (arith, v.0))
    (λ w. ⊎_elim
    (λ lt. ⊎_elim (λ gt. omega arith) (λ z. omega (arith, z.0)) w.1)
    (λ y. ⊎_elim (λ gt. omega (arith, y.0)) (λ z. mark-one_way e.mark f.mark y.1 z.1) w.1)
    v.1)
    k)
    h

pub one-image : (N : ℕ) (g image other : GraphValue N) (labels : List (List ℕ)) → IsImage g labels image → IsImage g labels other → image ≡ other
one-image N g image other labels one two =
    let pieces : image.pieces ≡ other.pieces = one.pieces ∙ sym two.pieces in
    let nodes : image.labels ≡ other.labels = same-list Before before-one_way image.labels other.labels one.nodes.ordered two.nodes.ordered (λ l m. (two.nodes.exact l).1 ((one.nodes.exact l).0 m)) (λ l m. (one.nodes.exact l).1 ((two.nodes.exact l).0 m)) in
    let arcs : image.arcs ≡ other.arcs =
    same-list ArcBefore arc-one_way image.arcs other.arcs one.ordered two.ordered
    (λ x m. let e = (one.arcs x).0 m in (two.arcs x).1 (e.0, e.1, subst (λ (ls : List (List ℕ)). BecomesArc labels ls e.0 x) nodes e.2))
    (λ x m. let e = (two.arcs x).0 m in (one.arcs x).1 (e.0, e.1, subst (λ (ls : List (List ℕ)). BecomesArc labels ls e.0 x) (sym nodes) e.2)) in
    λ i. record { pieces = pieces i; labels = nodes i; arcs = arcs i }
