use Rattle.std.proofs.Common.{◌≡◌, ◌+◌, length, take, sum_by}
use Rattle.flow_graph.proofs.graph.number_after.Given as goal

abbrev pub invariant-loop-before : goal.invariant-loop-before
invariant-loop-before l = l.number ≡ sum_by (λ x. length x.arcs + 1) (take l.before-index l.types) + 1
