use Rattle.std.proofs.Common.{ℕ, ◌<◌, ◌≤◌}
use Rattle.pattern_extract.specs.inner.Walks.{IsWayOn}
use Rattle.pattern_extract.proofs.walks.next_way.Given as goal

abbrev pub invariant-loop-place : goal.invariant-loop-place
invariant-loop-place l = (k : ℕ) → l.from ≤ k → k < l.place → IsWayOn l.row l.left l.t l.node k → ⊥
