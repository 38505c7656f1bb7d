use Rattle.std.proofs.Common.{◌+◌, ◌<◌, ℕ, get_or}
use Rattle.flow_graph.specs.Chords.{range_at}
use Rattle.needs_check.specs.inner.Laid.{IsInScaled}
use Rattle.needs_check.proofs.ranges.lie_in.Given as goal

abbrev pub invariant-loop-index : goal.invariant-loop-index
invariant-loop-index l = (k : ℕ) → k < l.index → IsInScaled l.scale (range_at l.ranges (k + 1)) (get_or l.values k 0)
