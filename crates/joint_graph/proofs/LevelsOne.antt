-- There is but one joint level graph: lists in order with the same members are equal.
use Rattle.std.proofs.Common.{◌≡◌, ℕ, ◌⊎◌, Ordering, List, length, sym, ap, ◌∙◌, subst, arith}
use Rattle.std.specs.Prelude.{Contains}
use Rattle.std.specs.Cmp.{IsTotalOrder}
use Rattle.std.specs.List.Sorted.{IsStrictlySortedBy}
use Rattle.std.specs.declared.cmp.Ordering.TheVariants.{Less}
use Rattle.std.proofs.lemmas.Map.Keys.{Less-from_sorted}
use Rattle.label_graph.specs.declared.parts.GraphArc.{GraphArc}
use Rattle.label_graph.specs.declared.parts.Piece.{Piece}
use Rattle.label_graph.specs.Graph.{ArcBefore}
use Rattle.label_graph.proofs.OneImage.{same-list, arc-one_way}
use Rattle.joint_graph.specs.declared.states.State.{State}
use Rattle.joint_graph.specs.Joints.{JointValue, IsNode, IsInner}
use Rattle.joint_graph.specs.JointLevels.{AreJointLevels, IsStepArc, IsEndArc, state_cmp}
use Rattle.joint_graph.proofs.StateOrders.{state-total}
use Rattle.joint_graph.proofs.RankLemmas.{never-less}
use Rattle.joint_graph.proofs.LevelPaths.{source-at, arc-climbs}

sorted-one : {X : Type 0} (cmp : X → X → Ordering) → IsTotalOrder cmp → (xs ys : List X) → IsStrictlySortedBy cmp xs → IsStrictlySortedBy cmp ys → ((x : X) → Contains xs x → Contains ys x) → ((x : X) → Contains ys x → Contains xs x) → xs ≡ ys
sorted-one {X} cmp total xs ys up down there back =
    same-list (λ (x y : X). cmp x y ≡ Less) (λ x y h k. never-less cmp total x (total.trans x y x h k)) xs ys
    (λ i j d lt high. Less-from_sorted cmp xs i j d up lt high)
    (λ i j d lt high. Less-from_sorted cmp ys i j d down lt high)
    there back

module _ {N : ℕ} (pieces : List (Piece N)) (caps : List (List ℕ)) where
  pub levels-one : (g h : JointValue N) → AreJointLevels pieces caps g → AreJointLevels pieces caps h → g ≡ h
  levels-one g h one two =
      let states : one.states ≡ two.states = sorted-one state_cmp state-total one.states two.states one.states_ordered two.states_ordered (λ s m. (two.states_reached s).1 ((one.states_reached s).0 m)) (λ s m. (one.states_reached s).1 ((two.states_reached s).0 m)) in
      let arcs : g.arcs ≡ h.arcs =
      same-list ArcBefore arc-one_way g.arcs h.arcs one.arcs_ordered two.arcs_ordered
      (λ e m. (two.arcs_are e).1 (subst (λ (ss : List (State N)). IsStepArc pieces caps ss e ⊎ IsEndArc pieces caps ss e) states ((one.arcs_are e).0 m)))
      (λ e m. (one.arcs_are e).1 (subst (λ (ss : List (State N)). IsStepArc pieces caps ss e ⊎ IsEndArc pieces caps ss e) (sym states) ((two.arcs_are e).0 m))) in
      let same_pieces : g.pieces ≡ h.pieces = one.pieces_are ∙ sym two.pieces_are in
      let same_caps : g.caps ≡ h.caps = one.caps_are ∙ sym two.caps_are in
      let inner : g.inner ≡ h.inner = one.inner_is ∙ ap length states ∙ sym two.inner_is in
      λ i. record { pieces = same_pieces i; caps = same_caps i; inner = inner i; arcs = arcs i }

  -- the source is there, and arcs lead from node to node
  module _ (g : JointValue N) (are : AreJointLevels pieces caps g) where
    pub level-first : IsInner g 1
    level-first =
        let at = source-at pieces caps are.states are.states_ordered are.states_reached g.arcs are.arcs_are in
        (omega arith, omega (arith, at.high, are.inner_is))

    pub level-ends : (e : GraphArc) → Contains g.arcs e → IsNode g e.tail × IsNode g e.head
    level-ends e m =
        let up = arc-climbs pieces caps are.states are.states_ordered are.states_reached g.arcs are.arcs_are g are.inner_is are.caps_are e m in
        ((up.low, omega (arith, up.from_inner)), (omega (arith, up.low, up.up), up.high))
