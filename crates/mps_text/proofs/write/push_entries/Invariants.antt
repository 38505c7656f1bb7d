use Rattle.std.proofs.Common.{◌≡◌, ◌++◌, map, take}
use Rattle.mps_text.specs.Written.{joined, entry_line}
use Rattle.mps_text.proofs.write.push_entries.Given as goal

abbrev pub invariant-loop-entry : goal.invariant-loop-entry
invariant-loop-entry l = l.out.items ≡ l.fn.out.items ++ joined (map (entry_line l.rows l.column) (take l.entry-index l.column.entries))
