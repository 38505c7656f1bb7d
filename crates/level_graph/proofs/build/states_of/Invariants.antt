use Rattle.std.proofs.Common.{◌≡◌}
use Rattle.level_graph.proofs.SoFar.{SoFar}
use Rattle.level_graph.proofs.build.states_of.Given as goal

abbrev pub invariant-loop-piece : goal.invariant-loop-piece
invariant-loop-piece g l = (l.number ≡ l.piece-index) × SoFar l.pieces l.cap l.piece-index l.states.items l.entering.items
