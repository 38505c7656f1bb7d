use Rattle.std.proofs.Common.{◌≡◌, sym, rules, Some, None, ◌∙◌}
use Rattle.label_graph.specs.declared.parts.Mark.TheVariants.{Loss}
use Rattle.level_graph.specs.inner.Layers.{skip_mark}
use Rattle.level_graph.proofs.Pushes.{skip-step, step-skip, step-contained, appends-one, appends-none}
use Rattle.level_graph.proofs.build.push_skip.Goals as goal

pub node_of-requires : goal.node_of-requires
node_of-requires g c =
    let step = skip-step c.args.pieces.now c.args.cap.now c.index-states-index.result c.in-Some.next (sym c.in-Some.ensures) in
    (search rules, (c.requires.small, (c.requires.states.ordered, step-contained c.args.pieces.now c.args.cap.now c.args.states.now c.requires.states c.args.index c.requires.index c.index-states-index.result c.index-states-index.is c.in-Some.next Loss step)))

pub returns-in_ok-push : goal.returns-in_ok-push
returns-in_ok-push g c =
    let step = skip-step c.args.pieces.now c.args.cap.now c.index-states-index.result c.in-Some.next (sym c.in-Some.ensures) in
    rw c.in_ok-push.ensures.items (appends-one c.args.pieces.now c.args.cap.now c.args.states.now c.requires.states c.args.index c.requires.index c.index-states-index.result c.index-states-index.is skip_mark c.in-Some.next c.node_of.result c.args.arcs.now.items step c.node_of.ensures)

pub returns-in_default : goal.returns-in_default
returns-in_default g c =
    appends-none c.args.pieces.now c.args.cap.now c.args.states.now c.requires.states c.args.index c.requires.index c.index-states-index.result c.index-states-index.is skip_mark c.args.arcs.now.items
    (λ t step. let bad : None ≡ Some t = c.in_default.ensures ∙ step-skip c.args.pieces.now c.args.cap.now c.index-states-index.result t step in cc)
