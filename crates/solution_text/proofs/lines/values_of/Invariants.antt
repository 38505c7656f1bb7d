use Rattle.std.proofs.Common.{◌≡◌, map, unwrap_or, take}
use Rattle.solution_text.proofs.lines.values_of.Given as goal

abbrev pub invariant-loop-value : goal.invariant-loop-value
invariant-loop-value l = l.values.items ≡ map (λ value. unwrap_or value 0) (take l.value-index l.found)
