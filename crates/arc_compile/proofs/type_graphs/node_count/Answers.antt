use Rattle.std.proofs.Common.{◌≡◌, ℕ, List, length, ap, arith}
use Rattle.arc_compile.proofs.NodeCounts.{nodes_few}
use Rattle.arc_compile.proofs.type_graphs.node_count.Goals as goal

pub overflow_cast-result : goal.overflow_cast-result
overflow_cast-result g c =
    let count : length c.labels.result.now ≡ length c.args.graph.now.labels = ap (λ (xs : List (List ℕ)). length xs) c.labels.ensures in
    omega (arith, nodes_few g.row.N c.args.graph.now c.known.ensures, c.requires, count)
