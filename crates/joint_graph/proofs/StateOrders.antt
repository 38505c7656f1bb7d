-- The order of states: by piece, by copies, by weight.
use Rattle.std.proofs.Common.{◌≡◌, ℕ, ◌+◌, ◌<◌, ◌⊎◌, Ordering, refl, sym, ap, ◌∙◌, inl, inr, arith}
use Rattle.std.specs.Cmp.{IsTotalOrder}
use Rattle.std.specs.Cmp.Lexicographic.{slice_cmp}
use Rattle.std.specs.Ordering.{nat_cmp, ordering_then, ordering_reverse}
use Rattle.std.specs.declared.cmp.Ordering.TheVariants.{Less, Equal, Greater}
use Rattle.std.proofs.lemmas.Cmp.{nat_cmp_total, nat_list_cmp_total, on_total, then_total}
use Rattle.arc_num.proofs.Orders.{then_equal, number_equal, list_equal}
use Rattle.label_graph.proofs.InOrder.{number-before, number-same}
use Rattle.joint_graph.specs.declared.states.State.{State}
use Rattle.label_graph.specs.declared.parts.Piece.{Piece}
use Rattle.label_graph.specs.declared.parts.Mark.{Mark}
use Rattle.label_graph.specs.declared.parts.Mark.TheVariants.{Loss, Piece as Carries}
use Rattle.std.specs.Prelude.{List}
use Rattle.joint_graph.specs.JointLevels.{state_cmp, StateBefore, Step}

module _ {N : ℕ} where
  pub state-total : IsTotalOrder (state_cmp {N = N})
  state-total = then_total (on_total (λ (s : State N). s.piece) nat_cmp_total) (then_total (on_total (λ (s : State N). s.copies) nat_cmp_total) (on_total (λ (s : State N). s.used) nat_list_cmp_total))

  state-equal : (s t : State N) → state_cmp s t ≡ Equal → s ≡ t
  state-equal s t h =
      let parts = then_equal (nat_cmp s.piece t.piece) (ordering_then (nat_cmp s.copies t.copies) (slice_cmp nat_cmp s.used t.used)) h in
      let more = then_equal (nat_cmp s.copies t.copies) (slice_cmp nat_cmp s.used t.used) parts.1 in
      let pieces_same = number_equal s.piece t.piece parts.0 in
      let copies_same = number_equal s.copies t.copies more.0 in
      let used_same = list_equal nat_cmp number_equal s.used t.used more.1 in
      λ i. record { piece = pieces_same i; copies = copies_same i; used = used_same i }

  -- of two states either comes first, or they are the same
  pub state-compare : (s t : State N) → StateBefore s t ⊎ ((s ≡ t) ⊎ StateBefore t s)
  state-compare s t = on (state_cmp s t) refl
    where
      on : (o : Ordering) → state_cmp s t ≡ o → StateBefore s t ⊎ ((s ≡ t) ⊎ StateBefore t s)
      on Less e = inl e
      on Equal e = inr (inl (state-equal s t e))
      on Greater e = inr (inr (state-total.antisymm t s ∙ ap ordering_reverse e))

  before-piece : (s t : State N) → s.piece < t.piece → StateBefore s t
  before-piece s t h = rw (number-before s.piece t.piece h) refl

  before-copies : (s t : State N) → s.piece ≡ t.piece → s.copies < t.copies → StateBefore s t
  before-copies s t e h = rw (number-same s.piece t.piece e, number-before s.copies t.copies h) refl

  -- a step leads to a later state
  pub step-before : (pieces : List (Piece N)) (caps : List (List ℕ)) (s t : State N) (m : Mark) → Step pieces caps s m t → StateBefore s t
  step-before pieces caps s t (Carries p) step =
      let pieces_same : t.piece ≡ s.piece = ap (λ (z : State N). z.piece) step.4 in
      let copies_more : t.copies ≡ s.copies + 1 = ap (λ (z : State N). z.copies) step.4 in
      before-copies s t (sym pieces_same) (omega arith)
  step-before pieces caps s t Loss step = let pieces_more : t.piece ≡ s.piece + 1 = ap (λ (z : State N). z.piece) step.1 in before-piece s t (omega arith)
