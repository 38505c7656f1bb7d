use Rattle.std.specs.List.Sorted.{IsStrictlySortedBy}
use Rattle.arc_compile.specs.inner.Ranks.{rank_cmp}
use Rattle.joint_compile.specs.inner.JointRanks.{AreRankedBelow}
use Rattle.joint_compile.proofs.pieces.joint_ranks.Given as goal

abbrev pub invariant-loop-bin_type : goal.invariant-loop-bin_type
invariant-loop-bin_type g l = AreRankedBelow {N = g.row.N} l.instance l.bin_type-index l.ranked.items × IsStrictlySortedBy rank_cmp l.ranked.items
