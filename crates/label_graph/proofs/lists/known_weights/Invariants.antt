use Rattle.std.proofs.Common.{◌≡◌, ℕ, List, length, take}
use Rattle.std.specs.Prelude.{All}
use Rattle.weight_vec.specs.Weight.{IsInRange}
use Rattle.label_graph.proofs.lists.known_weights.Given as goal

abbrev pub invariant-loop-weight : goal.invariant-loop-weight
invariant-loop-weight g l = record {
  sized : All (λ (q : List ℕ). length q ≡ g.row.N) (take l.weight-index l.weights);
  ranged : All (λ (q : List ℕ). IsInRange q) (take l.weight-index l.weights);
}
