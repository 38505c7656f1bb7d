-- The counts above 0, in order and merged, are the content in the printed form.
use Rattle.std.proofs.Common.{◌≡◌, ◌∙◌, List, ap, subst, arith}
use Rattle.std.specs.List.Sorted.{IsPermutation}
use Rattle.std.proofs.lemmas.Result.{IfOk-weaker}
use Rattle.packing_laws.specs.declared.packings.Count.{Count}
use Rattle.packing_laws.specs.Printed.{units_in, form_cmp, IsTidyContent, SameContent}
use Rattle.packing_laws.specs.inner.Tidying.{merged, joined_count}
use Rattle.packing_laws.proofs.TidyParts.{AreMerged-tidy, AreMerged-same, AreMerged-units, units_in-sorted}
use Rattle.packing_laws.proofs.tidying.tidy_counts.Goals as goal

pub merged_counts-requires : goal.merged_counts-requires
merged_counts-requires c =
    let sorted : List Count = c.sort_unstable.new.self.items in
    let units : units_in sorted ≡ units_in c.args.counts.now = units_in-sorted c.args.counts.now c.in_ok-kept.kept.items sorted c.in_ok-kept.ensures c.sort_unstable.ensures.permutation in
    let same : units_in c.as_slice.result.now ≡ units_in sorted = ap (λ (l : List Count). units_in l) c.as_slice.ensures.value in
    omega arith

pub returns-clause-tidy : goal.returns-clause-tidy
returns-clause-tidy c =
    let sorted : List Count = c.sort_unstable.new.self.items in
    IfOk-weaker c.merged_counts.result (λ v. v.items ≡ merged form_cmp joined_count c.as_slice.result.now) (λ v. IsTidyContent v.items)
    (λ v is. AreMerged-tidy c.args.counts.now sorted v.items (record { moved = subst (λ (l : List Count). IsPermutation l sorted) c.in_ok-kept.ensures c.sort_unstable.ensures.permutation; rises = c.sort_unstable.ensures.sorted; is = is ∙ ap (λ (l : List Count). merged form_cmp joined_count l) c.as_slice.ensures.value }))
    c.merged_counts.ensures

pub returns-clause-same : goal.returns-clause-same
returns-clause-same c =
    let sorted : List Count = c.sort_unstable.new.self.items in
    IfOk-weaker c.merged_counts.result (λ v. v.items ≡ merged form_cmp joined_count c.as_slice.result.now) (λ v. SameContent c.args.counts.now v.items)
    (λ v is. AreMerged-same c.args.counts.now sorted v.items (record { moved = subst (λ (l : List Count). IsPermutation l sorted) c.in_ok-kept.ensures c.sort_unstable.ensures.permutation; rises = c.sort_unstable.ensures.sorted; is = is ∙ ap (λ (l : List Count). merged form_cmp joined_count l) c.as_slice.ensures.value }))
    c.merged_counts.ensures

pub returns-clause-units : goal.returns-clause-units
returns-clause-units c =
    let sorted : List Count = c.sort_unstable.new.self.items in
    IfOk-weaker c.merged_counts.result (λ v. v.items ≡ merged form_cmp joined_count c.as_slice.result.now) (λ v. units_in v.items ≡ units_in c.args.counts.now)
    (λ v is. AreMerged-units c.args.counts.now sorted v.items (record { moved = subst (λ (l : List Count). IsPermutation l sorted) c.in_ok-kept.ensures c.sort_unstable.ensures.permutation; rises = c.sort_unstable.ensures.sorted; is = is ∙ ap (λ (l : List Count). merged form_cmp joined_count l) c.as_slice.ensures.value }))
    c.merged_counts.ensures
