-- All pieces so far are forms of items.
use Rattle.std.proofs.Common.{All}
use Rattle.first_fit.specs.inner.Fillings.{IsPiece}
use Rattle.first_fit.proofs.pieces.pieces_of.Given as goal

abbrev pub invariant-loop-at : goal.invariant-loop-at
invariant-loop-at l = All (IsPiece l.instance) l.pieces.items
