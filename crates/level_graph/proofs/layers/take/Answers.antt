use Rattle.std.proofs.Common.{arith, sym, refl}
use Rattle.std.proofs.lemmas.Bool.{false≢true}
use Rattle.level_graph.proofs.Takes.{taken-some, taken-too_heavy}
use Rattle.level_graph.proofs.layers.take.Goals as goal

pub returns-in_default : goal.returns-in_default
returns-in_default g c =
    sym (taken-too_heavy c.args.piece.now c.args.cap.now c.args.state.now (λ fits. c.in_default.ensures (λ d. omega (arith, fits d, c.known.ensures.range d))))

pub returns-then-not-fits : goal.returns-then-not-fits
returns-then-not-fits g c =
    sym (taken-too_heavy c.args.piece.now c.args.cap.now c.args.state.now (λ fits. false≢true (c.if-not-fits.ensures.1 (rw c.in-Some.ensures.1 fits))))

pub returns : goal.returns
returns g c =
    let fits = c.if-not-fits.ensures.0 refl in
    rw c.in-Some.ensures.1 (sym (taken-some c.args.piece.now c.args.cap.now c.args.state.now c.if-state-piece.false (rw c.in-Some.ensures.1 at fits)))
