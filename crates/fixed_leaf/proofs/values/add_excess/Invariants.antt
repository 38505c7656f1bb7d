use Rattle.std.proofs.Common.{length}
use Rattle.fixed_leaf.proofs.Excesses.{IsAdded}
use Rattle.fixed_leaf.proofs.values.add_excess.Given as goal

abbrev pub invariant-loop-index : goal.invariant-loop-index
invariant-loop-index l = IsAdded l.joints l.values l.index (length l.fn.excess) l.excess
