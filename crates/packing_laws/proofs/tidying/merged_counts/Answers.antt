-- The counts so far and the next add up to no more than all of them.
use Rattle.std.proofs.Common.{◌≡◌, ℕ, ◌+◌, ◌≤◌, ◌∙◌, List, take, get_or, ap, arith}
use Rattle.std.proofs.lemmas.List.Sums.{sum_by_more, sum_by-take-le}
use Rattle.packing_laws.specs.declared.packings.Count.{Count}
use Rattle.packing_laws.specs.Printed.{units_in}
use Rattle.packing_laws.proofs.TidyParts.{units_in-merged}
use Rattle.packing_laws.proofs.tidying.merged_counts.Goals as goal

pub add_count-requires : goal.add_count-requires
add_count-requires c =
    let counts : List Count = c.args.counts.now in
    let k : ℕ = c.loop-count.count-index in
    let none : Count = record { item = 0; form = 0; count = 0 } in
    let so_far : units_in c.loop-count.forms.items ≡ units_in (take k counts) = ap (λ (l : List Count). units_in l) c.loop-count.invariant ∙ units_in-merged (take k counts) in
    let next : units_in (take (k + 1) counts) ≡ units_in (take k counts) + (get_or counts k none).count = sum_by_more (λ (n : Count). n.count) counts k none c.loop-count-test.true in
    let all : units_in (take (k + 1) counts) ≤ units_in counts = sum_by-take-le (λ (n : Count). n.count) counts (k + 1) in
    omega arith
