use Rattle.std.proofs.Common.{◌≤◌, All, take}
use Rattle.path_prices.proofs.scratch.most_nodes.Given as goal

abbrev pub invariant-loop-t : goal.invariant-loop-t
invariant-loop-t l = All (λ x. x.nodes ≤ l.most) (take l.t l.graph)
