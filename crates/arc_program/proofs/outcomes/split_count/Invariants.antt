use Rattle.std.proofs.Common.{◌≡◌, ◌≤◌, take}
use Rattle.search_tree.specs.Trees.{splits_in}
use Rattle.arc_program.proofs.outcomes.split_count.Given as goal

abbrev pub invariant-loop-line : goal.invariant-loop-line
invariant-loop-line l = (l.count ≡ splits_in (take l.line-index l.lines)) × (l.count ≤ l.line-index)
