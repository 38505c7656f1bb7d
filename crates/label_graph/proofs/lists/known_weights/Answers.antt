use Rattle.std.proofs.Common.{◌≡◌, ◌<◌, ℕ, List, length, get_or, subst}
use Rattle.std.proofs.lemmas.List.Elements.{All-more}
use Rattle.weight_vec.specs.Weight.{IsInRange}
use Rattle.label_graph.proofs.lists.known_weights.Goals as goal

pub loop-weight-preserved : goal.loop-weight-preserved
loop-weight-preserved g c =
    let i = c.loop-weight.weight-index in
    let here = c.weight-item.result in
    let lt : i < length c.args.weights.now = c.loop-weight-test.true in
    let sized : length (get_or c.args.weights.now i here) ≡ g.row.N = subst (λ (q : List ℕ). length q ≡ g.row.N) c.weight-item.is c.known.ensures.places in
    let ranged : IsInRange (get_or c.args.weights.now i here) = subst (λ (q : List ℕ). IsInRange q) c.weight-item.is c.known.ensures.range in
    record {
      sized = All-more (λ (q : List ℕ). length q ≡ g.row.N) c.args.weights.now i here lt c.loop-weight.invariant.sized sized;
      ranged = All-more (λ (q : List ℕ). IsInRange q) c.args.weights.now i here lt c.loop-weight.invariant.ranged ranged;
    }
