-- A packing is under way.
use Rattle.std.proofs.Common.{All}
use Rattle.first_fit.specs.inner.Fillings.{IsPiece}
use Rattle.first_fit.specs.inner.Stages.{IsStage}
use Rattle.first_fit.proofs.greedy.pack.Given as goal

abbrev pub invariant-loop-turn : goal.invariant-loop-turn
invariant-loop-turn l = record {
  pieces : All (IsPiece l.instance) l.pieces.items;
  stage : IsStage l.instance l.rest l.free l.bins.items;
}
