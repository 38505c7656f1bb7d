use Rattle.std.proofs.Common.{◌≡◌, ◌≤◌, ◌*◌, ◌^◌}
use Rattle.level_graph.proofs.Counting.{Counted}
use Rattle.level_graph.proofs.counts.level_counts.Given as goal

abbrev pub invariant-loop-piece : goal.invariant-loop-piece
invariant-loop-piece g l = record {
  number : l.number ≡ l.piece-index;
  few_states : l.states ≤ l.piece-index * 2 ^ 64;
  few_takes : l.takes ≤ l.piece-index * 2 ^ 64;
  counted : Counted l.pieces l.cap l.piece-index l.states l.takes l.entering.items;
}
