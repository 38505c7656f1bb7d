-- The order of states: by piece, by copies, by weight.
use Rattle.std.proofs.Common.{◌≡◌, ℕ, ◌<◌, ◌≤◌, ◌⊎◌, refl, inl, inr, arith}
use Rattle.std.specs.Ordering.{nat_cmp, ordering_then}
use Rattle.std.specs.Cmp.{IsTotalOrder}
use Rattle.std.specs.declared.cmp.Ordering.TheVariants.{Less, Equal, Greater}
use Rattle.std.specs.Cmp.Lexicographic.{slice_cmp}
use Rattle.std.proofs.lemmas.Cmp.{ranked, by_ranked, nat_cmp_total, nat_list_cmp_total, on_total, then_total}
use Rattle.weight_vec.specs.Weight.{Before}
use Rattle.label_graph.proofs.InOrder.{number-before, number-same}
use Rattle.level_graph.specs.declared.states.State.{State}
use Rattle.level_graph.specs.Levels.{state_cmp, StateBefore}

module _ {N : ℕ} where
  pub state_total : IsTotalOrder (state_cmp {N = N})
  state_total = then_total (on_total (λ (s : State N). s.piece) nat_cmp_total) (then_total (on_total (λ (s : State N). s.copies) nat_cmp_total) (on_total (λ (s : State N). s.used) nat_list_cmp_total))

  pub before-piece : (s t : State N) → s.piece < t.piece → StateBefore s t
  before-piece s t h = rw (number-before s.piece t.piece h) refl

  pub before-copies : (s t : State N) → s.piece ≡ t.piece → s.copies < t.copies → StateBefore s t
  before-copies s t e h = rw (number-same s.piece t.piece e, number-before s.copies t.copies h) refl

  pub before-used : (s t : State N) → s.piece ≡ t.piece → s.copies ≡ t.copies → Before s.used t.used → StateBefore s t
  before-used s t e f h = rw (number-same s.piece t.piece e, number-same s.copies t.copies f) h

  -- what the order says of two states of one piece
  pub before-cases : (s t : State N) → s.piece ≡ t.piece → StateBefore s t → (s.copies < t.copies) ⊎ ((s.copies ≡ t.copies) × Before s.used t.used)
  before-cases s t e h =
      let rest : ordering_then (nat_cmp s.copies t.copies) (slice_cmp nat_cmp s.used t.used) ≡ Less = rw (number-same s.piece t.piece e) at h in
      by_ranked (s.copies < t.copies) (s.copies ≡ t.copies) (t.copies < s.copies) (nat_cmp s.copies t.copies) (ranked s.copies t.copies (nat_cmp s.copies t.copies) refl)
      (λ is lt. inl lt)
      (λ is same. inr (same, rw is at rest))
      (λ is gt. absurd (let bad : Greater ≡ Less = rw is at rest in cc))

  -- what the order says of the pieces
  pub before-piece_le : (s t : State N) → StateBefore s t → s.piece ≤ t.piece
  before-piece_le s t h =
      by_ranked (s.piece < t.piece) (s.piece ≡ t.piece) (t.piece < s.piece) (nat_cmp s.piece t.piece) (ranked s.piece t.piece (nat_cmp s.piece t.piece) refl)
      (λ is lt. omega arith)
      (λ is same. omega arith)
      (λ is gt. absurd (let bad : Greater ≡ Less = rw is at h in cc))
