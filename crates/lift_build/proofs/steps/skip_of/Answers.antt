use Rattle.std.proofs.Common.{◌+◌, ◌<◌, length, refl, inl, rules, ⊎_elim, arith}
use Rattle.std.proofs.lemmas.Bool.{cases_lt}
use Rattle.label_graph.specs.declared.parts.Mark.TheVariants.{Loss}
use Rattle.lift_build.specs.inner.Searches.{state_of}
use Rattle.lift_build.proofs.Lifts.{lift-fits}
use Rattle.lift_build.proofs.Aheads.{skip-last, ahead-lies}
use Rattle.lift_build.proofs.steps.skip_of.Goals as goal

pub returns-then-state-pieces : goal.returns-then-state-pieces
returns-then-state-pieces g c = skip-last c.args.pieces.now c.args.cap.now c.known.ensures.places c.args.room c.args.found.now c.requires.search (state_of c.args.state.now) c.requires.lift c.if-state-pieces.true

pub ahead_from-requires : goal.ahead_from-requires
ahead_from-requires g c =
    let below : c.args.state.now.piece < length c.args.pieces.now = ⊎_elim (λ lt. lt) (λ ge. absurd (c.if-state-pieces.false (omega (arith, c.requires.within)))) (cases_lt c.args.state.now.piece (length c.args.pieces.now)) in
    (search rules, (search rules, (search rules, (search rules, (search rules, (c.requires.small, (c.requires.pieces, (c.requires.rows, (c.requires.search, (omega arith, (omega arith, lift-fits c.args.pieces.now c.args.cap.now c.known.ensures.places (state_of c.args.state.now) c.requires.lift)))))))))))

pub returns : goal.returns
returns g c =
    let below : c.args.state.now.piece < length c.args.pieces.now = ⊎_elim (λ lt. lt) (λ ge. absurd (c.if-state-pieces.false (omega (arith, c.requires.within)))) (cases_lt c.args.state.now.piece (length c.args.pieces.now)) in
    ahead-lies c.args.pieces.now c.args.cap.now c.known.ensures.places c.args.room c.args.found.now c.requires.search (state_of c.args.state.now) (record { piece = c.args.state.now.piece + 1; copies = 0; used = c.args.state.now.used }) Loss c.ahead_from.result (inl (below, refl)) c.ahead_from.ensures
