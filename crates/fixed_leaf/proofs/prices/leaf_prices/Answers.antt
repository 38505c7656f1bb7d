-- The joints of a graph are a forest within its nodes, and there are not too many.
use Rattle.std.proofs.Common.{◌≡◌, ◌≤◌, ◌<◌, List, All, ap, length, sym, subst, arith}
use Rattle.arc_num.specs.declared.TheConstants.{MAX_NUMBERED}
use Rattle.flow_graph.specs.declared.parts.ArcKind.{ArcKind}
use Rattle.flow_graph.proofs.Numbers.{few_numbered}
use Rattle.flow_model.specs.inner.Known.{NamesType}
use Rattle.flow_model.proofs.ArcsKnown.{known_graph}
use Rattle.fixed_leaf.specs.declared.joints.Joint.{Joint}
use Rattle.fixed_leaf.proofs.Forests.{is_forest}
use Rattle.fixed_leaf.proofs.prices.leaf_prices.Goals as goal

pub tree_heights-requires-clause-forest : goal.tree_heights-requires-clause-forest
tree_heights-requires-clause-forest c = is_forest c.args.graph.now c.known-2.ensures c.args.net.now.joints c.requires.net.joints c.args.net.now.nodes c.requires.net.nodes

pub tree_heights-requires-clause-few : goal.tree_heights-requires-clause-few
tree_heights-requires-clause-few c = subst (λ (row : List ArcKind). length row ≤ MAX_NUMBERED) (sym c.row-row.ensures) (few_numbered c.args.graph.now c.known-2.ensures)

pub arc_prices-requires-clause-types : goal.arc_prices-requires-clause-types
arc_prices-requires-clause-types c = subst (All (NamesType (length c.args.instance.now.types))) (sym c.row-row.ensures) (known_graph c.args.instance.now c.args.graph.now c.known.ensures c.known-2.ensures c.requires.graph).types

pub arc_prices-requires-clause-tails : goal.arc_prices-requires-clause-tails
arc_prices-requires-clause-tails c =
    let nodes = c.in_ok-heights.ensures.size in
    let long : length c.as_slice.result.now ≡ length c.in_ok-heights.heights.items = ap length c.as_slice.ensures.value in
    let forest = is_forest c.args.graph.now c.known-2.ensures c.args.net.now.joints c.requires.net.joints c.args.net.now.nodes c.requires.net.nodes in
    subst (λ (js : List Joint). All (λ j. j.tail < length c.as_slice.result.now) js) (sym c.as_slice-joints.ensures) (λ k d within. let low = forest.tails k d within in omega (arith, low, nodes, long))

pub arc_prices-requires-clause-heads : goal.arc_prices-requires-clause-heads
arc_prices-requires-clause-heads c =
    let nodes = c.in_ok-heights.ensures.size in
    let long : length c.as_slice.result.now ≡ length c.in_ok-heights.heights.items = ap length c.as_slice.ensures.value in
    let forest = is_forest c.args.graph.now c.known-2.ensures c.args.net.now.joints c.requires.net.joints c.args.net.now.nodes c.requires.net.nodes in
    subst (λ (js : List Joint). All (λ j. j.head < length c.as_slice.result.now) js) (sym c.as_slice-joints.ensures) (λ k d within. let low = forest.heads k d within in omega (arith, low, nodes, long))

pub listed-requires : goal.listed-requires
listed-requires c =
    let long : length c.as_slice-2.result.now ≡ length c.in_ok-prices.prices.items = ap length c.as_slice-2.ensures.value in
    let joints : length c.as_slice-joints.result.now ≡ length c.args.net.now.joints = ap length c.as_slice-joints.ensures in
    let size = c.in_ok-prices.ensures.size in
    let count = c.requires.net.joints.size in
    let few = few_numbered c.args.graph.now c.known-2.ensures in
    omega (arith, long, joints, size, count, few)
