use Rattle.std.proofs.Common.{◌≡◌, ◌++◌, map, take}
use Rattle.mps_text.specs.Written.{joined, row_line}
use Rattle.mps_text.proofs.write.push_row_lines.Given as goal

abbrev pub invariant-loop-row : goal.invariant-loop-row
invariant-loop-row l = l.out.items ≡ l.fn.out.items ++ joined (map row_line (take l.row-index l.rows))
