use Rattle.std.proofs.Common.{◌≡◌, ◌+◌, ◌++◌, drop}
use Rattle.arc_program.specs.Reports.{size_lines}
use Rattle.arc_program.proofs.outcomes.push_size_lines.Given as goal

abbrev pub invariant-loop-t : goal.invariant-loop-t
invariant-loop-t l = l.out.items ++ size_lines (l.t + 1) (drop l.t l.sizes) ≡ l.fn.out.items ++ size_lines 1 l.sizes
