use Rattle.std.proofs.Common.{sym, ap, ◌∙◌, List, [], ◌∷◌, ◌++◌, Vec, Global, Some}
use Rattle.label_graph.specs.declared.parts.GraphArc.{GraphArc}
use Rattle.label_graph.specs.declared.parts.Mark.TheVariants.{Loss}
use Rattle.label_graph.specs.inner.Merges.{merged_arc}
use Rattle.label_graph.proofs.MergedArcs.{filter_map-more, filter_map-same}
use Rattle.joint_graph.proofs.merging.merged_arcs.Goals.{in-Some+in_ok-push, in_default}
use Rattle.joint_graph.proofs.merging.merged_arcs.Goals as goal

pub loop-arc-preserved : goal.loop-arc-preserved
loop-arc-preserved c =
    let i = c.loop-arc.arc-index in
    let none : GraphArc = record { tail = 0; head = 0; mark = Loss } in
    elim c.match-image_of.branch [
      | in-Some+in_ok-push w ↦ ap (λ (v : Vec GraphArc Global). v.items) w.merged-is ∙ w.in_ok-push.ensures.items ∙ ap (λ (z : List GraphArc). z ++ w.in-Some.image ∷ []) c.loop-arc.invariant ∙ sym (filter_map-more (merged_arc c.args.into.now) c.args.arcs.now i none (Some w.in-Some.image) c.loop-arc-test.true w.in-Some.ensures)
      | in_default w ↦ ap (λ (v : Vec GraphArc Global). v.items) w.merged-is ∙ c.loop-arc.invariant ∙ sym (filter_map-same (merged_arc c.args.into.now) c.args.arcs.now i none c.loop-arc-test.true w.in_default.ensures)
    ]
