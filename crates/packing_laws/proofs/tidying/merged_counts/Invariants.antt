-- The counts so far are merged.
use Rattle.std.proofs.Common.{◌≡◌, take}
use Rattle.packing_laws.specs.Printed.{form_cmp}
use Rattle.packing_laws.specs.inner.Tidying.{merged, joined_count}
use Rattle.packing_laws.proofs.tidying.merged_counts.Given as goal

abbrev pub invariant-loop-count : goal.invariant-loop-count
invariant-loop-count l = l.forms.items ≡ merged form_cmp joined_count (take l.count-index l.counts)
