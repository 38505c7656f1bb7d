use Rattle.std.proofs.Common.{refl, sym, inl, inr, rules, arith}
use Rattle.label_graph.specs.declared.parts.Mark.TheVariants.{Loss, Piece as Carries}
use Rattle.joint_graph.proofs.FoundStates.{reached-piece}
use Rattle.joint_graph.proofs.LevelArcs.{arcs-from, followed-there}
use Rattle.joint_graph.proofs.levels.push_arcs.Goals as goal

pub take-taken-requires : goal.take-taken-requires
take-taken-requires g c =
    let s = c.index-states-index.result in
    let reached = (c.requires.states.reached s).0 (c.args.index, c.requires.index, sym c.index-states-index.is) in
    (search rules, (search rules, (search rules, (c.requires.small, (c.requires.ranged, reached-piece c.args.pieces.now c.args.caps.now s reached)))))

pub push_step-requires : goal.push_step-requires
push_step-requires g c =
    let s = c.index-states-index.result in
    let there = followed-there c.args.pieces.now c.args.caps.now c.args.states.now c.requires.states c.args.index s c.requires.index c.index-states-index.is (Carries s.piece) c.take-taken.result c.take-taken.ensures in
    (search rules, (c.requires.small, (c.requires.states.ordered, (c.requires.index, there))))

pub push_step-requires-2 : goal.push_step-requires-2
push_step-requires-2 g c =
    let s = c.index-states-index.result in
    let there = followed-there c.args.pieces.now c.args.caps.now c.args.states.now c.requires.states c.args.index s c.requires.index c.index-states-index.is Loss c.skip-skipped.result c.skip-skipped.ensures in
    (search rules, (c.requires.small, (c.requires.states.ordered, (c.requires.index, there))))

pub returns-then-number-pieces : goal.returns-then-number-pieces
returns-then-number-pieces g c =
    arcs-from c.args.pieces.now c.args.caps.now c.args.states.now c.args.index c.index-states-index.result c.requires.index c.index-states-index.is c.args.arcs.now.items c.push_step.new.arcs.items c.push_step-2.new.arcs.items c.push_step-2.new.arcs.items c.take-taken.result c.skip-skipped.result c.take-taken.ensures c.skip-skipped.ensures c.in_ok-push_step.ensures c.in_ok-push_step-2.ensures (inr (c.if-number-pieces.true, refl))

pub returns : goal.returns
returns g c =
    arcs-from c.args.pieces.now c.args.caps.now c.args.states.now c.args.index c.index-states-index.result c.requires.index c.index-states-index.is c.args.arcs.now.items c.push_step.new.arcs.items c.push_step-2.new.arcs.items c.push_ends.new.arcs.items c.take-taken.result c.skip-skipped.result c.take-taken.ensures c.skip-skipped.ensures c.in_ok-push_step.ensures c.in_ok-push_step-2.ensures (inl (omega (arith, c.if-number-pieces.false), c.in_ok-push_ends.ensures))
