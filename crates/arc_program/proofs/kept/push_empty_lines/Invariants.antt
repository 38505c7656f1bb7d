use Rattle.std.proofs.Common.{◌≡◌, ◌++◌}
use Rattle.arc_program.specs.Reports.{bins_text}
use Rattle.arc_program.specs.Kept.{empty_lines}
use Rattle.arc_program.proofs.kept.push_empty_lines.Given as goal

abbrev pub invariant-loop-t : goal.invariant-loop-t
invariant-loop-t l = l.out.items ≡ l.fn.out.items ++ bins_text (empty_lines l.t l.bins)
