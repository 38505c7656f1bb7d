use Rattle.std.proofs.Common.{subst, rules}
use Rattle.std.proofs.lemmas.Result.{on_ok_weaker}
use Rattle.label_graph.specs.declared.parts.Mark.TheVariants.{Piece as Carries}
use Rattle.lift_build.specs.declared.found.Ahead.{Ahead}
use Rattle.lift_build.specs.inner.Searches.{LiesAhead, state_of}
use Rattle.lift_build.proofs.Waiting.{waits-with, waits-grow, lift-ahead}
use Rattle.lift_build.proofs.search.look_at_take.Goals as goal

pub wait_for-requires : goal.wait_for-requires
wait_for-requires g c =
    let ahead = subst (λ (a : Ahead g.row.N). LiesAhead c.args.pieces.now c.args.cap.now c.args.found.now (state_of c.args.state) (Carries c.args.state.piece) a) c.in-Some-Lifted.field-0-is c.in-Some-Lifted.ensures in
    (search rules, (search rules, (search rules, (search rules, (search rules, (c.requires.small, (c.requires.stack, (waits-with c.args.pieces.now c.args.cap.now c.args.found.now c.args.state c.args.skip c.requires.lift c.requires.within c.requires.skip, (lift-ahead c.args.pieces.now c.args.cap.now c.known.ensures.places c.args.found.now (state_of c.args.state) (Carries c.args.state.piece) c.in-Some-Lifted.next c.requires.lift ahead, ahead.3)))))))))

pub returns-in-Some-Known-clause-stack : goal.returns-in-Some-Known-clause-stack
returns-in-Some-Known-clause-stack g c = on_ok_weaker c.finish.result (λ grows. waits-grow c.args.pieces.now c.args.cap.now c.known.ensures.places c.args.found.now c.finish.new.found c.args.stack.now.items grows c.requires.stack) c.finish.ensures.grows

pub returns-in-None-clause-stack : goal.returns-in-None-clause-stack
returns-in-None-clause-stack g c = on_ok_weaker c.finish-in-None.result (λ grows. waits-grow c.args.pieces.now c.args.cap.now c.known.ensures.places c.args.found.now c.finish-in-None.new.found c.args.stack.now.items grows c.requires.stack) c.finish-in-None.ensures.grows
