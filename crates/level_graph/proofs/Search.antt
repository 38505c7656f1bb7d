-- A binary search among states in order finds each of them.
use Rattle.std.proofs.Common.{◌≡◌, ℕ, ◌+◌, ◌-◌, ◌<◌, ◌≤◌, List, [], ◌∷◌, length, get_or, refl, sym, ap, ◌∙◌, subst, ⊎_elim, arith}
use Rattle.std.specs.Prelude.{Contains, AllPairs}
use Rattle.std.specs.Ordering.{nat_cmp, ordering_then, ordering_index}
use Rattle.std.specs.List.Sorted.{IsNonDecreasingBy, IsPartitionPoint}
use Rattle.std.specs.declared.cmp.Ordering.{Ordering}
use Rattle.std.specs.declared.cmp.Ordering.TheVariants.{Less, Equal, Greater}
use Rattle.std.specs.Cmp.Lexicographic.{slice_cmp}
use Rattle.std.proofs.lemmas.Cmp.{ranked, by_ranked, tied_itself}
use Rattle.std.proofs.lemmas.Bool.{cases_lt}
use Rattle.arc_num.proofs.Orders.{then_equal, number_equal, list_equal}
use Rattle.level_graph.specs.declared.states.State.{State}
use Rattle.level_graph.specs.Levels.{StateBefore, state_cmp, IsNode}
use Rattle.level_graph.proofs.StateOrder.{state_total}
use Rattle.level_graph.proofs.Arcs.{never_before_itself}

at_most_two : (o : Ordering) → ordering_index o ≤ 2
at_most_two Less = omega arith
at_most_two Equal = omega arith
at_most_two Greater = omega arith

module _ {N : ℕ} where
  pub state_equal : (s t : State N) → state_cmp s t ≡ Equal → s ≡ t
  state_equal s t h =
      let parts = then_equal (nat_cmp s.piece t.piece) (ordering_then (nat_cmp s.copies t.copies) (slice_cmp nat_cmp s.used t.used)) h in
      let more = then_equal (nat_cmp s.copies t.copies) (slice_cmp nat_cmp s.used t.used) parts.1 in
      let p = number_equal s.piece t.piece parts.0 in
      let q = number_equal s.copies t.copies more.0 in
      let r = list_equal nat_cmp number_equal s.used t.used more.1 in
      λ i. record { piece = p i; copies = q i; used = r i }

  -- what comes before is ranked no higher
  rank_rises : (s t wanted : State N) → StateBefore s t → (o : Ordering) → state_cmp t wanted ≡ o → ordering_index (state_cmp s wanted) ≤ ordering_index (state_cmp t wanted)
  rank_rises s t wanted before Less e =
      let less : state_cmp s wanted ≡ Less = state_total.trans s t wanted before e in
      let low : ordering_index (state_cmp s wanted) ≡ 0 = ap ordering_index less in
      omega arith
  rank_rises s t wanted before Equal e =
      let less : state_cmp s wanted ≡ Less = subst (λ (z : State N). state_cmp s z ≡ Less) (state_equal t wanted e) before in
      let low : ordering_index (state_cmp s wanted) ≡ 0 = ap ordering_index less in
      omega arith
  rank_rises s t wanted before Greater e =
      let high : ordering_index (state_cmp t wanted) ≡ 2 = ap ordering_index e in
      omega (arith, at_most_two (state_cmp s wanted))

  searchable : (states : List (State N)) (wanted : State N) → AllPairs StateBefore states → IsNonDecreasingBy (λ (y : State N). ordering_index (state_cmp y wanted)) states
  searchable states wanted up i j d le in_range =
      ⊎_elim
      (λ lt. rank_rises (get_or states i d) (get_or states j d) wanted (up i j d lt in_range) (state_cmp (get_or states j d) wanted) refl)
      (λ ge. let same : i ≡ j = omega arith in
      let e : ordering_index (state_cmp (get_or states i d) wanted) ≡ ordering_index (state_cmp (get_or states j d) wanted) = ap (λ (n : ℕ). ordering_index (state_cmp (get_or states n d) wanted)) same in
      omega arith)
      (cases_lt i j)

  pub never_missed : (states : List (State N)) (wanted : State N) (at : ℕ) → AllPairs StateBefore states → Contains states wanted → (IsNonDecreasingBy (λ (y : State N). ordering_index (state_cmp y wanted)) states → IsPartitionPoint (λ (y : State N). state_cmp y wanted ≡ Less) (λ (y : State N). state_cmp y wanted ≡ Greater) states at) → ⊥
  never_missed states wanted at up there missed =
      let parts = missed (searchable states wanted up) in
      ⊎_elim
      (λ lt.
      let less : state_cmp (get_or states there.0 wanted) wanted ≡ Less = parts.0 there.0 wanted (omega arith) lt in
      never_before_itself wanted (subst (λ (z : State N). state_cmp z wanted ≡ Less) there.2 less))
      (λ ge.
      let greater : state_cmp (get_or states there.0 wanted) wanted ≡ Greater = parts.1 there.0 wanted ge there.1 in
      let itself : state_cmp wanted wanted ≡ Greater = subst (λ (z : State N). state_cmp z wanted ≡ Greater) there.2 greater in
      let equal : state_cmp wanted wanted ≡ Equal = tied_itself state_total wanted in
      let bad : Equal ≡ Greater = sym equal ∙ itself in cc)
      (cases_lt there.0 at)

  pub found_node : (states : List (State N)) (wanted : State N) (at : ℕ) → at < length states → ((d : State N) → state_cmp (get_or states at d) wanted ≡ Equal) → IsNode states (at + 1) wanted
  found_node states wanted at lt equal =
      let same : at + 1 - 1 ≡ at = omega arith in
      (omega arith, omega arith, subst (λ (i : ℕ). get_or states i wanted ≡ wanted) (sym same) (state_equal (get_or states at wanted) wanted (equal wanted)))
