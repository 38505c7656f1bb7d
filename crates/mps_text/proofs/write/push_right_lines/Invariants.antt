use Rattle.std.proofs.Common.{◌≡◌, ◌++◌, flat_map, take}
use Rattle.mps_text.specs.Written.{joined, right_lines}
use Rattle.mps_text.proofs.write.push_right_lines.Given as goal

abbrev pub invariant-loop-row : goal.invariant-loop-row
invariant-loop-row l = l.out.items ≡ l.fn.out.items ++ joined (flat_map right_lines (take l.row-index l.rows))
