use Rattle.std.proofs.Common.{◌≡◌, take}
use Rattle.arc_compile.specs.inner.Ranks.{pieces_from}
use Rattle.arc_compile.proofs.pieces.with_copies.Given as goal

abbrev pub invariant-loop-rank : goal.invariant-loop-rank
invariant-loop-rank g l = l.pieces.items ≡ pieces_from l.instance (take l.rank-index l.ranked)
