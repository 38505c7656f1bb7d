use Rattle.std.proofs.Common.{Option, refl, subst, rules, arith}
use Rattle.label_graph.specs.declared.parts.GraphArc.{GraphArc}
use Rattle.lift_build.specs.inner.Searches.{state_of, IsGrownBy}
use Rattle.lift_build.proofs.Aheads.{lift-low}
use Rattle.lift_build.proofs.Lifting.{piece-weight}
use Rattle.lift_build.proofs.Finishing.{added-label, behind-shown, skip-over, take-over, finish-search}
use Rattle.lift_build.proofs.finish.finish.Goals as goal

pub overflow_sub-piece : goal.overflow_sub-piece
overflow_sub-piece g c = lift-low c.args.pieces.now c.args.cap.now (state_of c.args.state) c.requires.lift

pub bounds-pieces-state : goal.bounds-pieces-state
bounds-pieces-state g c = omega (arith, c.requires.within, lift-low c.args.pieces.now c.args.cap.now (state_of c.args.state) c.requires.lift)

pub label_before-label-requires : goal.label_before-label-requires
label_before-label-requires g c =
    let low = lift-low c.args.pieces.now c.args.cap.now (state_of c.args.state) c.requires.lift in
    let weight = (piece-weight c.args.pieces.now c.args.cap.now c.args.state.piece c.index-pieces-state.result low c.requires.within c.index-pieces-state.is).0 in
    (search rules, (c.requires.small, behind-shown c.args.pieces.now c.args.cap.now c.known.ensures.places c.args.found.now c.args.state c.args.skip c.requires.skip c.args.take c.index-pieces-state.result c.as_slice.result.now c.requires.take weight c.as_slice.ensures))

pub returns-in-Err-clause-full : goal.returns-in-Err-clause-full
returns-in-Err-clause-full g c e =
    let low = lift-low c.args.pieces.now c.args.cap.now (state_of c.args.state) c.requires.lift in
    let weight = (piece-weight c.args.pieces.now c.args.cap.now c.args.state.piece c.index-pieces-state.result low c.requires.within c.index-pieces-state.is).0 in
    let added = added-label c.args.pieces.now c.args.cap.now c.known.ensures.places c.args.found.now c.args.state c.args.skip c.requires.skip c.args.take c.index-pieces-state.result c.as_slice.result.now c.insert.new.self c.label_before-label.result c.in_ok-number.number c.requires.take weight c.as_slice.ensures c.label_before-label.ensures c.in_ok-number.ensures in
    skip-over c.args.pieces.now c.args.cap.now c.known.ensures.places c.args.room c.args.found.now c.args.state c.requires.search c.requires.lift c.insert.new.self c.in_ok-number.number added c.args.skip c.requires.skip c.skip_arc_of.result c.skip_arc_of.ensures (c.in-Err.ensures.full e)

pub returns-in-Err-add_arc-clause-full : goal.returns-in-Err-add_arc-clause-full
returns-in-Err-add_arc-clause-full g c e =
    let low = lift-low c.args.pieces.now c.args.cap.now (state_of c.args.state) c.requires.lift in
    let weight = (piece-weight c.args.pieces.now c.args.cap.now c.args.state.piece c.index-pieces-state.result low c.requires.within c.index-pieces-state.is).0 in
    let added = added-label c.args.pieces.now c.args.cap.now c.known.ensures.places c.args.found.now c.args.state c.args.skip c.requires.skip c.args.take c.index-pieces-state.result c.as_slice.result.now c.insert.new.self c.label_before-label.result c.in_ok-number.number c.requires.take weight c.as_slice.ensures c.label_before-label.ensures c.in_ok-number.ensures in
    let one = subst (λ (o : Option GraphArc). IsGrownBy o c.args.found.now.arcs c.add_arc.new.arcs) c.skip_arc_of.ensures c.in-Ok.ensures.grown in
    take-over c.args.pieces.now c.args.cap.now c.known.ensures.places c.args.room c.args.found.now c.args.state c.requires.search c.requires.lift c.insert.new.self c.in_ok-number.number added c.args.skip c.requires.skip c.args.take c.requires.take c.add_arc.new.arcs one c.take_arc_of.result c.take_arc_of.ensures (c.in-Err-add_arc.ensures.full e)

pub returns-clause-search : goal.returns-clause-search
returns-clause-search g c =
    let low = lift-low c.args.pieces.now c.args.cap.now (state_of c.args.state) c.requires.lift in
    let weight = (piece-weight c.args.pieces.now c.args.cap.now c.args.state.piece c.index-pieces-state.result low c.requires.within c.index-pieces-state.is).0 in
    let added = added-label c.args.pieces.now c.args.cap.now c.known.ensures.places c.args.found.now c.args.state c.args.skip c.requires.skip c.args.take c.index-pieces-state.result c.as_slice.result.now c.insert.new.self c.label_before-label.result c.in_ok-number.number c.requires.take weight c.as_slice.ensures c.label_before-label.ensures c.in_ok-number.ensures in
    let one = subst (λ (o : Option GraphArc). IsGrownBy o c.args.found.now.arcs c.add_arc.new.arcs) c.skip_arc_of.ensures c.in-Ok.ensures.grown in
    let two = subst (λ (o : Option GraphArc). IsGrownBy o c.add_arc.new.arcs c.add_arc-2.new.arcs) c.take_arc_of.ensures c.in-Ok-add_arc.ensures.grown in
    (finish-search c.args.pieces.now c.args.cap.now c.known.ensures.places c.args.room c.args.found.now c.args.state c.requires.search c.requires.lift c.insert.new.self c.in_ok-number.number added c.args.skip c.requires.skip c.args.take c.requires.take c.add_arc.new.arcs (record { labels = c.insert.new.self; arcs = c.add_arc-2.new.arcs; states = c.args.found.now.states; numbers = c.args.found.now.numbers }) c.note.new.self refl refl refl one two c.in-Ok-add_arc.ensures.roomy c.in_ok-note.ensures).0

pub returns-clause-grows : goal.returns-clause-grows
returns-clause-grows g c =
    let low = lift-low c.args.pieces.now c.args.cap.now (state_of c.args.state) c.requires.lift in
    let weight = (piece-weight c.args.pieces.now c.args.cap.now c.args.state.piece c.index-pieces-state.result low c.requires.within c.index-pieces-state.is).0 in
    let added = added-label c.args.pieces.now c.args.cap.now c.known.ensures.places c.args.found.now c.args.state c.args.skip c.requires.skip c.args.take c.index-pieces-state.result c.as_slice.result.now c.insert.new.self c.label_before-label.result c.in_ok-number.number c.requires.take weight c.as_slice.ensures c.label_before-label.ensures c.in_ok-number.ensures in
    let one = subst (λ (o : Option GraphArc). IsGrownBy o c.args.found.now.arcs c.add_arc.new.arcs) c.skip_arc_of.ensures c.in-Ok.ensures.grown in
    let two = subst (λ (o : Option GraphArc). IsGrownBy o c.add_arc.new.arcs c.add_arc-2.new.arcs) c.take_arc_of.ensures c.in-Ok-add_arc.ensures.grown in
    (finish-search c.args.pieces.now c.args.cap.now c.known.ensures.places c.args.room c.args.found.now c.args.state c.requires.search c.requires.lift c.insert.new.self c.in_ok-number.number added c.args.skip c.requires.skip c.args.take c.requires.take c.add_arc.new.arcs (record { labels = c.insert.new.self; arcs = c.add_arc-2.new.arcs; states = c.args.found.now.states; numbers = c.args.found.now.numbers }) c.note.new.self refl refl refl one two c.in-Ok-add_arc.ensures.roomy c.in_ok-note.ensures).1
