use Rattle.std.proofs.Common.{◌≡◌, ℕ, ◌+◌, ◌<◌, ◌≤◌, get_or}
use Rattle.label_graph.specs.declared.parts.Piece.{Piece}
use Rattle.weight_vec.specs.Weight.{AtMost, IsZero}
use Rattle.lift_build.proofs.tests.are_pieces.Given as goal

abbrev pub invariant-loop-index : goal.invariant-loop-index
invariant-loop-index g l = record {
  items : (k : ℕ) (d : Piece g.row.N) → k < l.index → (get_or l.pieces k d).item ≡ k + 1;
  copied : (k : ℕ) (d : Piece g.row.N) → k < l.index → 1 ≤ (get_or l.pieces k d).copies;
  heavy : (k : ℕ) (d : Piece g.row.N) → k < l.index → IsZero (get_or l.pieces k d).weight → ⊥;
  fit : (k : ℕ) (d : Piece g.row.N) → k < l.index → AtMost (get_or l.pieces k d).weight l.cap;
}
