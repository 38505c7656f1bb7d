use Rattle.std.proofs.Common.{ℕ, ◌<◌, ◌≤◌}
use Rattle.joint_extract.specs.inner.Circuits.{IsWayOn}
use Rattle.joint_extract.proofs.walks.next_way.Given as goal

abbrev pub invariant-loop-place : goal.invariant-loop-place
invariant-loop-place l = (k : ℕ) → l.from ≤ k → k < l.place → IsWayOn l.row l.left l.node k → ⊥
