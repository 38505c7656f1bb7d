-- The lines so far are merged.
use Rattle.std.proofs.Common.{◌≡◌, take, map}
use Rattle.packing_laws.specs.Printed.{bin_cmp}
use Rattle.packing_laws.specs.inner.Tidying.{merged, joined_bin, bin_of}
use Rattle.packing_laws.proofs.tidying.merged_lines.Given as goal

abbrev pub invariant-loop-line : goal.invariant-loop-line
invariant-loop-line l = l.bins.items ≡ merged bin_cmp joined_bin (map bin_of (take l.line-index l.lines))
