use Rattle.std.proofs.Common.{◌≡◌, ◌++◌, flat_map, take}
use Rattle.mps_text.specs.Written.{joined, column_lines}
use Rattle.mps_text.proofs.write.push_column_lines.Given as goal

abbrev pub invariant-loop-column : goal.invariant-loop-column
invariant-loop-column l = l.out.items ≡ l.fn.out.items ++ joined (flat_map (column_lines l.program) (take l.column-index l.program.columns))
