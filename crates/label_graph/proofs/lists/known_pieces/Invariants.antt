use Rattle.std.proofs.Common.{◌≡◌, length, take}
use Rattle.std.specs.Prelude.{All}
use Rattle.label_graph.specs.declared.parts.Piece.{Piece}
use Rattle.weight_vec.specs.Weight.{IsInRange}
use Rattle.label_graph.proofs.lists.known_pieces.Given as goal

abbrev pub invariant-loop-piece : goal.invariant-loop-piece
invariant-loop-piece g l = record {
  sized : All (λ (q : Piece g.row.N). length q.weight ≡ g.row.N) (take l.piece-index l.pieces);
  ranged : All (λ (q : Piece g.row.N). IsInRange q.weight) (take l.piece-index l.pieces);
}
