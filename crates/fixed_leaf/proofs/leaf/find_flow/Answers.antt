-- Of values within their ranges only a demand can be violated; where none is, they are a flow.
use Rattle.std.proofs.Common.{ℕ, ◌≤◌, ◌∙◌, List, All, Some, ap, length, map, sym, subst, arith, pos, rules}
use Rattle.arc_num.specs.declared.TheConstants.{MAX_NUMBERED}
use Rattle.flow_graph.specs.declared.parts.ArcKind.{ArcKind}
use Rattle.flow_graph.proofs.Numbers.{few_numbered}
use Rattle.flow_model.specs.Flows.{FirstBadRow, arc_cost, weigh_arcs}
use Rattle.flow_model.specs.inner.Known.{NamesType}
use Rattle.flow_model.proofs.ArcsKnown.{known_graph}
use Rattle.fixed_leaf.specs.inner.Found.{IsFault}
use Rattle.fixed_leaf.proofs.BadRows.{is_demand, is_fault, same}
use Rattle.fixed_leaf.proofs.leaf.find_flow.Goals as goal

pub range_fault-requires-clause-few : goal.range_fault-requires-clause-few
range_fault-requires-clause-few c = let size = c.requires.size in let few = few_numbered c.args.graph.now c.known-2.ensures in omega (arith, size, few)

pub cost_of-cost-requires-clause-few : goal.cost_of-cost-requires-clause-few
cost_of-cost-requires-clause-few c = subst (λ (row : List ArcKind). length row ≤ MAX_NUMBERED) (sym c.row.ensures) (few_numbered c.args.graph.now c.known-2.ensures)

pub cost_of-cost-requires-clause-types : goal.cost_of-cost-requires-clause-types
cost_of-cost-requires-clause-types c = subst (All (NamesType (length c.args.instance.now.types))) (sym c.row.ensures) (known_graph c.args.instance.now c.args.graph.now c.known.ensures c.known-2.ensures c.requires.graph).types

pub unmet-requires : goal.unmet-requires
unmet-requires c = is_demand c.args.instance.now c.args.graph.now c.args.ranges.now c.args.values.now c.requires.within c.requires.size c.requires.balanced c.in_default.ensures c.in-Some-first_bad.row (subst (λ (ns : List ℕ). FirstBadRow c.args.instance.now c.args.graph.now ns (Some c.in-Some-first_bad.row)) c.in_ok-flow.ensures c.in-Some-first_bad.ensures.first)

pub returns-in-None : goal.returns-in-None
returns-in-None c = record {
  same = ap (map (λ (n : ℕ). pos n)) c.in_ok-flow.ensures ∙ same c.args.instance.now c.args.graph.now c.args.ranges.now c.args.values.now c.requires.within c.requires.size c.requires.balanced c.in_default.ensures;
  flow = c.in-None.ensures.none.0 (search rules);
  ranges = c.in_default.ensures;
  cost = c.cost_of-cost.ensures ∙ (λ k. weigh_arcs (arc_cost c.args.instance.now) (c.row.ensures k) (c.as_slice.ensures k));
}

pub returns-in-Some-first_bad : goal.returns-in-Some-first_bad
returns-in-Some-first_bad c = subst (λ f. IsFault c.args.instance.now c.args.graph.now c.args.ranges.now c.args.values.now f) (sym c.unmet.ensures) (is_fault c.args.instance.now c.args.graph.now c.args.ranges.now c.args.values.now c.requires.within c.requires.size c.requires.balanced c.in_default.ensures c.in-Some-first_bad.row (subst (λ (ns : List ℕ). FirstBadRow c.args.instance.now c.args.graph.now ns (Some c.in-Some-first_bad.row)) c.in_ok-flow.ensures c.in-Some-first_bad.ensures.first))
