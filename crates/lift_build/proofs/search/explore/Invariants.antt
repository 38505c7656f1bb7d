use Rattle.std.specs.Prelude.{All}
use Rattle.lift_build.specs.inner.Searches.{IsSearch, IsWaiting}
use Rattle.lift_build.proofs.search.explore.Given as goal

abbrev pub invariant-loop : goal.invariant-loop
invariant-loop g l = record {
  search : IsSearch l.pieces l.cap l.room l.found;
  stack : All (IsWaiting l.pieces l.cap l.found) l.stack.items;
}
