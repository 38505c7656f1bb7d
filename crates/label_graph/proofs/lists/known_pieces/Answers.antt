use Rattle.std.proofs.Common.{◌≡◌, ◌<◌, length, get_or, subst}
use Rattle.std.proofs.lemmas.List.Elements.{All-more}
use Rattle.label_graph.specs.declared.parts.Piece.{Piece}
use Rattle.weight_vec.specs.Weight.{IsInRange}
use Rattle.label_graph.proofs.lists.known_pieces.Goals as goal

pub loop-piece-preserved : goal.loop-piece-preserved
loop-piece-preserved g c =
    let i = c.loop-piece.piece-index in
    let here = c.piece-item.result in
    let lt : i < length c.args.pieces.now = c.loop-piece-test.true in
    let sized : length (get_or c.args.pieces.now i here).weight ≡ g.row.N = subst (λ (q : Piece g.row.N). length q.weight ≡ g.row.N) c.piece-item.is c.known.ensures.places in
    let ranged : IsInRange (get_or c.args.pieces.now i here).weight = subst (λ (q : Piece g.row.N). IsInRange q.weight) c.piece-item.is c.known.ensures.range in
    record {
      sized = All-more (λ (q : Piece g.row.N). length q.weight ≡ g.row.N) c.args.pieces.now i here lt c.loop-piece.invariant.sized sized;
      ranged = All-more (λ (q : Piece g.row.N). IsInRange q.weight) c.args.pieces.now i here lt c.loop-piece.invariant.ranged ranged;
    }
