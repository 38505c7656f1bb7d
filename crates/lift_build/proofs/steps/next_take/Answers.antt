use Rattle.std.proofs.Common.{◌∙◌, sym}
use Rattle.std.proofs.lemmas.Bool.{false≢true}
use Rattle.lift_build.proofs.Aheads.{pass-on}
use Rattle.lift_build.proofs.steps.next_take.Goals as goal

pub loop-index-preserved : goal.loop-index-preserved
loop-index-preserved g c = pass-on c.args.pieces.now c.args.cap.now c.args.state c.loop-index.here c.loop-index.index c.index-pieces-index.result c.loop-index.invariant c.loop-index-test.true c.index-pieces-index.is
    (λ left fits. false≢true (sym c.if-has_take.false ∙ c.has_take.ensures.never left fits))
