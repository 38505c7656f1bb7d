use Rattle.std.proofs.Common.{◌≡◌, ℕ, List, get_or, sym, subst, rules, ◌∙◌}
use Rattle.std.specs.Prelude.{Contains}
use Rattle.std.specs.List.{filter_map}
use Rattle.std.proofs.lemmas.List.Elements.{Contains-get_or}
use Rattle.label_graph.specs.inner.Merges.{AreNodes, merged_arc}
use Rattle.label_graph.proofs.MergedArcs.{image-made, sorted-arcs}
use Rattle.label_graph.proofs.images.image_arcs.Goals as goal

pub merged_nodes-requires : goal.merged_nodes-requires
merged_nodes-requires g c = (
  search rules,
  (
    c.requires.small,
    λ k d lt. subst (λ (keys : List (List ℕ)). Contains keys (get_or c.args.labels.now k d)) (sym c.in_ok-numbers.ensures) ((c.requires.distinct.exact (get_or c.args.labels.now k d)).1 (Contains-get_or c.args.labels.now k d lt)),
  ),
)

pub returns : goal.returns
returns g c =
    let nodes = c.in_ok-nodes.nodes.items in
    let at : AreNodes c.args.labels.now c.args.distinct.now nodes = subst (λ (keys : List (List ℕ)). AreNodes c.args.labels.now keys nodes) c.in_ok-numbers.ensures c.in_ok-nodes.ensures in
    let made : c.in_ok-arcs.arcs.items ≡ filter_map (merged_arc nodes) c.args.graph.now.arcs = c.in_ok-arcs.ensures ∙ (λ i. filter_map (merged_arc (c.as_slice.ensures.value i)) (c.arcs.ensures i)) in
    image-made c.args.graph.now c.args.labels.now c.args.distinct.now nodes c.requires.graph c.requires.labelling c.requires.distinct at c.in_ok-arcs.arcs.items c.sort_distinct.new.all.items made (sorted-arcs _ c.arcs_are_in_order.ensures c.sort_distinct.new.all.items c.sort_distinct.ensures.sorted) c.sort_distinct.ensures.same
