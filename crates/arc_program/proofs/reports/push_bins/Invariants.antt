use Rattle.std.proofs.Common.{◌≡◌, ◌++◌, take}
use Rattle.arc_program.specs.Reports.{bins_text}
use Rattle.arc_program.proofs.reports.push_bins.Given as goal

abbrev pub invariant-loop-bin : goal.invariant-loop-bin
invariant-loop-bin l = l.out.items ≡ l.fn.out.items ++ bins_text (take l.bin-index l.bins)
