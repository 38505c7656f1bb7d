use Rattle.std.proofs.Common.{◌≡◌, ◌++◌, take}
use Rattle.arc_program.specs.Reports.{type_lines}
use Rattle.arc_program.proofs.reports.push_type_lines.Given as goal

abbrev pub invariant-loop-t : goal.invariant-loop-t
invariant-loop-t l = l.out.items ≡ l.fn.out.items ++ type_lines 1 (take l.t l.levels) (take l.t l.sizes)
