use Rattle.std.proofs.Common.{length}
use Rattle.fixed_leaf.proofs.Climbing.{IsClimbed}
use Rattle.fixed_leaf.proofs.heights.climb.Given as goal

abbrev pub invariant-loop-index : goal.invariant-loop-index
invariant-loop-index l = IsClimbed l.row l.joints l.fault (length l.fn.heights) l.index l.heights
