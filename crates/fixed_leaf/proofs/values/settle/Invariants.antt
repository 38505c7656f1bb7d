use Rattle.std.proofs.Common.{length}
use Rattle.fixed_leaf.specs.inner.Nets.{size_of}
use Rattle.fixed_leaf.proofs.Settling.{IsSettling}
use Rattle.fixed_leaf.proofs.values.settle.Given as goal

abbrev pub invariant-loop-index : goal.invariant-loop-index
invariant-loop-index l = IsSettling l.joints l.fn.values (size_of l.fn.excess) (length l.fn.excess) l.index l.values l.excess
