use Rattle.std.proofs.Common.{ℕ, List, sym, subst, rules, arith}
use Rattle.weight_vec.specs.Weight.{AtMost}
use Rattle.lift_build.specs.inner.Searches.{state_of}
use Rattle.lift_build.proofs.Aheads.{from-target, from-under}
use Rattle.lift_build.proofs.steps.ahead_from.Goals as goal

pub lift_of-requires : goal.lift_of-requires
lift_of-requires g c =
    let is = c.in-Some.ensures in
    (search rules, (search rules, (search rules, (c.requires.small, (omega (arith, c.requires.pieces.few), (c.requires.rows, (is.1, (is.2, subst (λ (l : List ℕ). AtMost l c.args.cap.now) (sym is.3) c.requires.fits))))))))

pub returns-in-Some : goal.returns-in-Some
returns-in-Some g c =
    let is = c.in-Some.ensures in
    from-under c.args.pieces.now c.args.cap.now c.known.ensures.places c.args.room c.args.found.now c.requires.search (state_of c.args.state) (state_of c.in-Some.next) c.lift_of.result c.ahead_of.result is.0 c.lift_of.ensures.under (omega (arith, c.lift_of.ensures.piece, is.2)) c.ahead_of.ensures

pub returns-in-None : goal.returns-in-None
returns-in-None g c = from-target c.args.pieces.now c.args.cap.now c.known.ensures.places c.args.room c.args.found.now c.requires.search (state_of c.args.state) c.in-None.ensures (omega (arith, c.requires.low, c.requires.high))
