-- The prices close the box, by what its values are.
use Rattle.std.proofs.Common.{List, sym, subst, arith, ℤ}
use Rattle.std.proofs.lemmas.List.{length-map}
use Rattle.flow_graph.specs.Arcs.{numbered}
use Rattle.flow_graph.specs.Balance.{AreBalanced}
use Rattle.flow_graph.proofs.Numbers.{few_numbered}
use Rattle.flow_model.specs.Boxes.{root_range}
use Rattle.fixed_leaf.specs.inner.Found.{IsFault, IsFlowOf, IsFound}
use Rattle.fixed_leaf.proofs.Balanced.{balanced}
use Rattle.fixed_leaf.proofs.Forests.{is_forest}
use Rattle.fixed_leaf.proofs.Settles.{settles_fault, settles_flow}
use Rattle.fixed_leaf.proofs.Told.{told_fault, told_flow}
use Rattle.fixed_leaf.proofs.leaf.fixed_leaf.Goals as goal

pub settled_values-requires-clause-forest : goal.settled_values-requires-clause-forest
settled_values-requires-clause-forest c = is_forest c.args.graph.now c.known-2.ensures c.in_ok-net.net.joints c.in_ok-net.ensures.joints c.in_ok-net.net.nodes c.in_ok-net.ensures.nodes

pub settled_values-requires-clause-few : goal.settled_values-requires-clause-few
settled_values-requires-clause-few c =
    let size = c.requires.within.size in
    let root = length-map (numbered c.args.graph.now) (root_range c.args.instance.now) in
    let few = few_numbered c.args.graph.now c.known-2.ensures in
    omega (arith, size, root, few)

pub find_flow-requires-clause-balanced : goal.find_flow-requires-clause-balanced
find_flow-requires-clause-balanced c = subst (AreBalanced c.args.graph.now) (sym c.as_slice.ensures.value) (balanced c.args.graph.now c.known-2.ensures c.in_ok-net.net.joints c.in_ok-net.ensures.joints c.args.ranges.now c.in_ok-values.values.items c.in_ok-values.ensures)

pub returns-in-Fault-clause-told : goal.returns-in-Fault-clause-told
returns-in-Fault-clause-told c =
    let is = subst (IsFound c.args.instance.now c.args.graph.now c.args.ranges.now c.as_slice.result.now) c.in-Fault.is c.in_ok-fault.ensures in
    told_fault c.args.instance.now c.args.graph.now c.known-2.ensures c.in_ok-net.net.joints c.in_ok-net.ensures.joints c.args.ranges.now c.as_slice.result.now c.in_ok-leaf_prices-in-Fault.field-0 c.in-Fault.fault c.in_ok-leaf_prices-in-Fault.ensures is

pub returns-in-Fault-clause-settled : goal.returns-in-Fault-clause-settled
returns-in-Fault-clause-settled c =
    let is = subst (λ (values : List ℤ). IsFault c.args.instance.now c.args.graph.now c.args.ranges.now values c.in-Fault.fault) c.as_slice.ensures.value (subst (IsFound c.args.instance.now c.args.graph.now c.args.ranges.now c.as_slice.result.now) c.in-Fault.is c.in_ok-fault.ensures) in
    settles_fault c.args.instance.now c.args.graph.now c.known-2.ensures c.in_ok-net.net.joints c.in_ok-net.ensures.joints c.args.ranges.now c.requires.fixed c.in_ok-values.values.items c.in_ok-values.ensures c.in_ok-leaf_prices-in-Fault.field-0 c.in-Fault.fault c.in_ok-leaf_prices-in-Fault.ensures is

pub returns-clause-told : goal.returns-clause-told
returns-clause-told c = told_flow c.args.instance.now c.args.graph.now c.known-2.ensures c.in_ok-net.net.joints c.in_ok-net.ensures.joints c.in_ok-leaf_prices-in-Flow.field-0 c.in_ok-leaf_prices-in-Flow.ensures

pub returns-clause-settled : goal.returns-clause-settled
returns-clause-settled c =
    let is = subst (λ (values : List ℤ). IsFlowOf c.args.instance.now c.args.graph.now c.args.ranges.now values c.in-Flow.flow) c.as_slice.ensures.value (subst (IsFound c.args.instance.now c.args.graph.now c.args.ranges.now c.as_slice.result.now) c.in-Flow.is c.in_ok-fault.ensures) in
    settles_flow c.args.instance.now c.args.graph.now c.known-2.ensures c.in_ok-net.net.joints c.in_ok-net.ensures.joints c.args.ranges.now c.requires.fixed c.in_ok-values.values.items c.in_ok-values.ensures c.in_ok-leaf_prices-in-Flow.field-0 c.requires.within c.in-Flow.flow c.in_ok-leaf_prices-in-Flow.ensures is
