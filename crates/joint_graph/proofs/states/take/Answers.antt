use Rattle.std.proofs.Common.{refl, arith}
use Rattle.std.proofs.lemmas.Bool.{false≢true}
use Rattle.joint_graph.proofs.TakeLemmas.{take-past, take-spent, take-over, take-unfit, take-made}
use Rattle.joint_graph.proofs.states.take.Goals as goal

pub returns-then-number-pieces : goal.returns-then-number-pieces
returns-then-number-pieces g c = take-past c.args.pieces.now c.args.caps.now c.args.state.now c.if-number-pieces.true

pub returns-then-state-piece : goal.returns-then-state-piece
returns-then-state-piece g c = take-spent c.args.pieces.now c.args.caps.now c.args.state.now c.index-pieces-number.result c.requires.low c.if-number-pieces.false c.index-pieces-number.is c.if-state-piece.true

pub returns-in_default : goal.returns-in_default
returns-in_default g c = take-over c.args.pieces.now c.args.caps.now c.args.state.now c.index-pieces-number.result c.requires.low c.if-number-pieces.false c.index-pieces-number.is c.requires.ranged c.in_default.ensures

pub returns-then-not-fits_some : goal.returns-then-not-fits_some
returns-then-not-fits_some g c =
    take-unfit c.args.pieces.now c.args.caps.now c.args.state.now c.index-pieces-number.result c.requires.low c.if-number-pieces.false c.index-pieces-number.is (λ fits. false≢true (c.if-not-fits_some.ensures.1 (rw c.in-Some.ensures.1 fits)))

pub returns : goal.returns
returns g c =
    take-made c.args.pieces.now c.args.caps.now c.args.state.now c.index-pieces-number.result c.requires.low c.if-number-pieces.false c.index-pieces-number.is (omega (arith, c.if-state-piece.false)) c.in-Some.used c.in-Some.ensures.1 (c.if-not-fits_some.ensures.0 refl)
