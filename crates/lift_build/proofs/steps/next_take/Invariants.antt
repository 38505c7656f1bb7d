use Rattle.lift_build.specs.inner.Searches.{MayPass}
use Rattle.lift_build.proofs.steps.next_take.Given as goal

abbrev pub invariant-loop-index : goal.invariant-loop-index
invariant-loop-index g l = MayPass l.pieces l.cap l.state l.index l.here
