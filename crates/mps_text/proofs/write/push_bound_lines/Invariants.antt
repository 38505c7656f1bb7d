use Rattle.std.proofs.Common.{◌≡◌, ◌++◌, flat_map, take}
use Rattle.mps_text.specs.Written.{joined, bound_lines}
use Rattle.mps_text.proofs.write.push_bound_lines.Given as goal

abbrev pub invariant-loop-column : goal.invariant-loop-column
invariant-loop-column l = l.out.items ≡ l.fn.out.items ++ joined (flat_map bound_lines (take l.column-index l.columns))
