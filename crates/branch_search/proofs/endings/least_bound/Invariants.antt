use Rattle.std.proofs.Common.{take}
use Rattle.branch_search.specs.inner.Bounds.{IsLeastBound}
use Rattle.branch_search.proofs.endings.least_bound.Given as goal

abbrev pub invariant-loop-place : goal.invariant-loop-place
invariant-loop-place l = record {
  least : IsLeastBound (take l.place-index l.places) l.least;
}
