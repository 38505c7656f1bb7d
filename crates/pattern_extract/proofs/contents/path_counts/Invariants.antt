use Rattle.std.proofs.Common.{◌≡◌, take}
use Rattle.pattern_extract.specs.Extracts.{units_along}
use Rattle.pattern_extract.proofs.contents.path_counts.Given as goal

abbrev pub invariant-loop-arc : goal.invariant-loop-arc
invariant-loop-arc l = l.counts.items ≡ units_along l.row (take l.arc-index l.arcs)
