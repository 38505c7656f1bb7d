use Rattle.pattern_extract.specs.Trims.{AreTrimmed, work_in}
use Rattle.pattern_extract.proofs.trims.trim.Given as goal

abbrev pub invariant-loop-bin : goal.invariant-loop-bin
invariant-loop-bin l = AreTrimmed l.instance l.fn.bins.items l.pending.items l.done.items l.surplus

abbrev pub decreases-loop-bin : goal.decreases-loop-bin
decreases-loop-bin l = work_in l.pending.items
