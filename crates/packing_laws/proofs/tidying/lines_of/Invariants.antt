-- The lines are those of the bins so far.
use Rattle.std.proofs.Common.{take}
use Rattle.packing_laws.proofs.TidyParts.{AreLines}
use Rattle.packing_laws.proofs.tidying.lines_of.Given as goal

abbrev pub invariant-loop-bin : goal.invariant-loop-bin
invariant-loop-bin l = AreLines (take l.bin-index l.bins) l.lines.items
