-- The order is asked.
use Rattle.std.proofs.Common.{◌≡◌, ◌∙◌, ap, sym}
use Rattle.std.specs.Ordering.{is_eq, nat_cmp, ordering_then}
use Rattle.std.specs.Cmp.Lexicographic.{slice_cmp}
use Rattle.packing_laws.specs.Printed.{bin_cmp, count_cmp}
use Rattle.packing_laws.specs.inner.Tidying.{bin_of}
use Rattle.packing_laws.proofs.Merging.{equal_from}
use Rattle.packing_laws.proofs.tidying.is_alike.Goals as goal

pub returns : goal.returns
returns c =
    let by_type : c.cmp-by_type.result ≡ nat_cmp c.args.bin.now.bin_type c.args.line.now.bin_type = c.cmp-by_type.ensures in
    let by_counts : c.cmp.result ≡ slice_cmp count_cmp c.args.bin.now.counts c.args.line.now.counts.items = c.cmp.ensures ∙ (λ i. slice_cmp count_cmp (c.as_slice.ensures i) (c.as_slice-2.ensures.value i)) in
    let both : c.then.result ≡ bin_cmp c.args.bin.now (bin_of c.args.line.now) = c.then.ensures ∙ (λ i. ordering_then (by_type i) (by_counts i)) in
    let asked : c.is_eq.result ≡ is_eq (bin_cmp c.args.bin.now (bin_of c.args.line.now)) = c.is_eq.ensures ∙ ap is_eq both in
    (λ yes. equal_from (bin_cmp c.args.bin.now (bin_of c.args.line.now)) (sym asked ∙ yes), λ same. asked ∙ ap is_eq same)
