use Rattle.std.proofs.Common.{◌≡◌, ◌++◌, take}
use Rattle.arc_program.specs.Reports.{counts_text}
use Rattle.arc_program.proofs.reports.push_counts.Given as goal

abbrev pub invariant-loop-count : goal.invariant-loop-count
invariant-loop-count l = l.out.items ≡ l.fn.out.items ++ counts_text (take l.count-index l.counts)
