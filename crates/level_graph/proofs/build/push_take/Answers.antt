use Rattle.std.proofs.Common.{◌≡◌, sym, arith, rules, Some, None, ◌∙◌}
use Rattle.label_graph.specs.declared.parts.Mark.TheVariants.{Piece as Carries}
use Rattle.level_graph.specs.inner.Layers.{take_mark}
use Rattle.level_graph.proofs.Pushes.{here-low, take-is_step, step-is_take, step-contained, appends-one, appends-none}
use Rattle.level_graph.proofs.build.push_take.Goals as goal

pub overflow_sub-number : goal.overflow_sub-number
overflow_sub-number g c = here-low c.args.pieces.now c.args.cap.now c.args.states.now c.requires.states c.args.index c.requires.index c.index-states-index.result c.index-states-index.is

pub bounds-pieces-number : goal.bounds-pieces-number
bounds-pieces-number g c =
    omega (arith, here-low c.args.pieces.now c.args.cap.now c.args.states.now c.requires.states c.args.index c.requires.index c.index-states-index.result c.index-states-index.is)

pub node_of-requires : goal.node_of-requires
node_of-requires g c =
    let s = c.index-states-index.result in
    let step = take-is_step c.args.pieces.now c.args.cap.now c.args.states.now c.requires.states c.args.index c.requires.index s c.index-states-index.is c.index-pieces-number.result c.if-number-pieces.false c.index-pieces-number.is c.in-Some.next (sym c.in-Some.ensures) in
    (search rules, (c.requires.small, (c.requires.states.ordered, step-contained c.args.pieces.now c.args.cap.now c.args.states.now c.requires.states c.args.index c.requires.index s c.index-states-index.is c.in-Some.next (Carries s.piece) step)))

pub returns-in_ok-push : goal.returns-in_ok-push
returns-in_ok-push g c =
    let s = c.index-states-index.result in
    let step = take-is_step c.args.pieces.now c.args.cap.now c.args.states.now c.requires.states c.args.index c.requires.index s c.index-states-index.is c.index-pieces-number.result c.if-number-pieces.false c.index-pieces-number.is c.in-Some.next (sym c.in-Some.ensures) in
    rw c.in_ok-push.ensures.items (appends-one c.args.pieces.now c.args.cap.now c.args.states.now c.requires.states c.args.index c.requires.index s c.index-states-index.is take_mark c.in-Some.next c.node_of.result c.args.arcs.now.items step c.node_of.ensures)

pub returns-in_default : goal.returns-in_default
returns-in_default g c =
    let s = c.index-states-index.result in
    appends-none c.args.pieces.now c.args.cap.now c.args.states.now c.requires.states c.args.index c.requires.index s c.index-states-index.is take_mark c.args.arcs.now.items
    (λ t step.
    let bad : None ≡ Some t = c.in_default.ensures ∙ step-is_take c.args.pieces.now c.args.cap.now c.args.states.now c.requires.states c.args.index c.requires.index s c.index-states-index.is c.index-pieces-number.result c.if-number-pieces.false c.index-pieces-number.is t step in
    cc)
