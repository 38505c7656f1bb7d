-- A binary search among labels in order finds each of them.
use Rattle.std.proofs.Common.{◌≡◌, ℕ, ◌+◌, ◌-◌, ◌<◌, ◌≤◌, List, length, get_or, refl, sym, ap, ◌∙◌, subst, ⊎_elim, arith}
use Rattle.std.specs.Prelude.{Contains, AllPairs}
use Rattle.std.specs.Ordering.{nat_cmp, ordering_index}
use Rattle.std.specs.List.Sorted.{IsNonDecreasingBy, IsPartitionPoint}
use Rattle.std.specs.declared.cmp.Ordering.{Ordering}
use Rattle.std.specs.declared.cmp.Ordering.TheVariants.{Less, Equal, Greater}
use Rattle.std.specs.Cmp.Lexicographic.{slice_cmp}
use Rattle.std.proofs.lemmas.Cmp.{tied_itself, nat_list_cmp_total}
use Rattle.std.proofs.lemmas.Bool.{cases_lt}
use Rattle.arc_num.proofs.Orders.{number_equal, list_equal}
use Rattle.weight_vec.specs.Weight.{Before}
use Rattle.label_graph.proofs.Merging.{never_before_itself}
use Rattle.lift_build.specs.inner.Numbers.{IsNumber}

at_most_two : (o : Ordering) → ordering_index o ≤ 2
at_most_two Less = omega arith
at_most_two Equal = omega arith
at_most_two Greater = omega arith

label_equal : (s t : List ℕ) → slice_cmp nat_cmp s t ≡ Equal → s ≡ t
label_equal s t h = list_equal nat_cmp number_equal s t h

rank_rises : (s t wanted : List ℕ) → Before s t → (o : Ordering) → slice_cmp nat_cmp t wanted ≡ o → ordering_index (slice_cmp nat_cmp s wanted) ≤ ordering_index (slice_cmp nat_cmp t wanted)
rank_rises s t wanted before Less e =
    let less : slice_cmp nat_cmp s wanted ≡ Less = nat_list_cmp_total.trans s t wanted before e in
    let low : ordering_index (slice_cmp nat_cmp s wanted) ≡ 0 = ap ordering_index less in
    omega arith
rank_rises s t wanted before Equal e =
    let less : slice_cmp nat_cmp s wanted ≡ Less = subst (λ (z : List ℕ). slice_cmp nat_cmp s z ≡ Less) (label_equal t wanted e) before in
    let low : ordering_index (slice_cmp nat_cmp s wanted) ≡ 0 = ap ordering_index less in
    omega arith
rank_rises s t wanted before Greater e =
    let high : ordering_index (slice_cmp nat_cmp t wanted) ≡ 2 = ap ordering_index e in
    omega (arith, at_most_two (slice_cmp nat_cmp s wanted))

searchable : (labels : List (List ℕ)) (wanted : List ℕ) → AllPairs Before labels → IsNonDecreasingBy (λ (y : List ℕ). ordering_index (slice_cmp nat_cmp y wanted)) labels
searchable labels wanted up i j d le in_range =
    ⊎_elim
    (λ lt. rank_rises (get_or labels i d) (get_or labels j d) wanted (up i j d lt in_range) (slice_cmp nat_cmp (get_or labels j d) wanted) refl)
    (λ ge. let same : i ≡ j = omega arith in
    let e : ordering_index (slice_cmp nat_cmp (get_or labels i d) wanted) ≡ ordering_index (slice_cmp nat_cmp (get_or labels j d) wanted) = ap (λ (n : ℕ). ordering_index (slice_cmp nat_cmp (get_or labels n d) wanted)) same in
    omega arith)
    (cases_lt i j)

pub label_never_missed : (labels : List (List ℕ)) (wanted : List ℕ) (at : ℕ) → AllPairs Before labels → Contains labels wanted → (IsNonDecreasingBy (λ (y : List ℕ). ordering_index (slice_cmp nat_cmp y wanted)) labels → IsPartitionPoint (λ (y : List ℕ). slice_cmp nat_cmp y wanted ≡ Less) (λ (y : List ℕ). slice_cmp nat_cmp y wanted ≡ Greater) labels at) → ⊥
label_never_missed labels wanted at up there missed =
    let parts = missed (searchable labels wanted up) in
    ⊎_elim
    (λ lt.
    let less : slice_cmp nat_cmp (get_or labels there.0 wanted) wanted ≡ Less = parts.0 there.0 wanted (omega arith) lt in
    never_before_itself wanted (subst (λ (z : List ℕ). slice_cmp nat_cmp z wanted ≡ Less) there.2 less))
    (λ ge.
    let greater : slice_cmp nat_cmp (get_or labels there.0 wanted) wanted ≡ Greater = parts.1 there.0 wanted ge there.1 in
    let itself : slice_cmp nat_cmp wanted wanted ≡ Greater = subst (λ (z : List ℕ). slice_cmp nat_cmp z wanted ≡ Greater) there.2 greater in
    let equal : slice_cmp nat_cmp wanted wanted ≡ Equal = tied_itself nat_list_cmp_total wanted in
    let bad : Equal ≡ Greater = sym equal ∙ itself in cc)
    (cases_lt there.0 at)

pub label_found : (labels : List (List ℕ)) (wanted : List ℕ) (at : ℕ) → at < length labels → ((d : List ℕ) → slice_cmp nat_cmp (get_or labels at d) wanted ≡ Equal) → IsNumber labels (at + 1) wanted
label_found labels wanted at lt equal =
    let same : at + 1 - 1 ≡ at = omega arith in
    record { low = omega arith; high = omega arith; here = λ d. ap (λ (i : ℕ). get_or labels i d) same ∙ label_equal (get_or labels at d) wanted (equal d) }
