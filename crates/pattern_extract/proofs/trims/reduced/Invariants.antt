use Rattle.pattern_extract.proofs.Reducing.{IsReducedSoFar}
use Rattle.pattern_extract.proofs.trims.reduced.Given as goal

abbrev pub invariant-loop-count : goal.invariant-loop-count
invariant-loop-count l = IsReducedSoFar l.times l.count-index l.counts l.kept.items l.initial.surplus l.surplus
