use Rattle.std.proofs.Common.{ℕ, List, ap, sym, subst, rules, arith}
use Rattle.weight_vec.specs.Weight.{AtMost}
use Rattle.label_graph.specs.declared.parts.Mark.TheVariants.{Piece as Carries}
use Rattle.lift_build.specs.declared.states.LiftedState.{LiftedState}
use Rattle.lift_build.specs.inner.Searches.{state_of}
use Rattle.lift_build.proofs.Aheads.{lift-low, take-step, take-none, ahead-lies}
use Rattle.lift_build.proofs.steps.take_of.Goals as goal

pub overflow_sub-piece : goal.overflow_sub-piece
overflow_sub-piece g c = lift-low c.args.pieces.now c.args.cap.now (state_of c.args.state.now) c.requires.lift

pub bounds-pieces-state : goal.bounds-pieces-state
bounds-pieces-state g c = omega (arith, c.requires.within, lift-low c.args.pieces.now c.args.cap.now (state_of c.args.state.now) c.requires.lift)

pub ahead_from-requires : goal.ahead_from-requires
ahead_from-requires g c =
    let low = lift-low c.args.pieces.now c.args.cap.now (state_of c.args.state.now) c.requires.lift in
    let is = c.in-Some.ensures in
    let piece = ap (λ (t : LiftedState g.row.N). t.piece) is.2 in
    (search rules, (search rules, (search rules, (search rules, (search rules, (c.requires.small, (c.requires.pieces, (c.requires.rows, (c.requires.search, (omega arith, (omega (arith, c.requires.within), subst (λ (l : List ℕ). AtMost l c.args.cap.now) (sym (ap (λ (t : LiftedState g.row.N). t.used) is.2)) is.1)))))))))))

pub returns-in-Some : goal.returns-in-Some
returns-in-Some g c =
    let low = lift-low c.args.pieces.now c.args.cap.now (state_of c.args.state.now) c.requires.lift in
    let is = c.in-Some.ensures in
    let piece = ap (λ (t : LiftedState g.row.N). t.piece) is.2 in
    let step = take-step c.args.pieces.now c.args.cap.now c.args.state.now c.in-Some.next c.index-pieces-state.result low c.requires.within c.index-pieces-state.is is in
    ahead-lies c.args.pieces.now c.args.cap.now c.known.ensures.places c.args.room c.args.found.now c.requires.search (state_of c.args.state.now) (state_of c.in-Some.next) (Carries c.args.state.now.piece) c.ahead_from.result step c.ahead_from.ensures

pub returns-in-None : goal.returns-in-None
returns-in-None g c = take-none c.args.pieces.now c.args.cap.now c.args.state.now c.index-pieces-state.result (lift-low c.args.pieces.now c.args.cap.now (state_of c.args.state.now) c.requires.lift) c.requires.within c.index-pieces-state.is c.in-None.ensures
