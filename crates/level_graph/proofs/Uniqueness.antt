-- There is but one level graph: lists in order with the same members are equal.
use Rattle.std.proofs.Common.{◌≡◌, ℕ, List, sym, subst}
use Rattle.label_graph.specs.declared.parts.GraphArc.{GraphArc}
use Rattle.label_graph.specs.declared.parts.Piece.{Piece}
use Rattle.label_graph.specs.Graph.{ArcBefore}
use Rattle.level_graph.specs.declared.states.State.{State}
use Rattle.level_graph.specs.Levels.{StateBefore, IsLevels, IsStepArc}
use Rattle.label_graph.proofs.OneImage.{same-list, arc-one_way}
use Rattle.level_graph.proofs.StateOrder.{state_total}
use Rattle.level_graph.proofs.Arcs.{never_before_itself}

pub one_level_graph : (N : ℕ) (pieces : List (Piece N)) (room : List ℕ) (states others : List (State N)) (arcs more : List GraphArc) → IsLevels pieces room states arcs → IsLevels pieces room others more → (states ≡ others) × (arcs ≡ more)
one_level_graph N pieces room states others arcs more one two =
    let same : states ≡ others = same-list StateBefore (λ s t h k. never_before_itself s (state_total.trans s t s h k)) states others one.states_ordered two.states_ordered (λ s m. (two.states_reached s).1 ((one.states_reached s).0 m)) (λ s m. (one.states_reached s).1 ((two.states_reached s).0 m)) in (
      same,
      same-list ArcBefore arc-one_way arcs more one.arcs_ordered two.arcs_ordered
          (λ e m. (two.arcs_step e).1 (subst (λ (ss : List (State N)). IsStepArc pieces room ss e) same ((one.arcs_step e).0 m)))
          (λ e m. (one.arcs_step e).1 (subst (λ (ss : List (State N)). IsStepArc pieces room ss e) (sym same) ((two.arcs_step e).0 m))),
    )
