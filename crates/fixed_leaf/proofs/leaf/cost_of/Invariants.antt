use Rattle.std.proofs.Common.{◌≡◌, ◌+◌, ◌≤◌, ◌*◌, ◌^◌, drop}
use Rattle.flow_model.specs.Flows.{arc_cost, weigh_arcs}
use Rattle.fixed_leaf.proofs.leaf.cost_of.Given as goal

abbrev pub invariant-loop-index : goal.invariant-loop-index
invariant-loop-index l = record {
  small : l.cost ≤ l.index * 2 ^ 96;
  rest : l.cost + weigh_arcs (arc_cost l.instance) (drop l.index l.row) (drop l.index l.values) ≡ weigh_arcs (arc_cost l.instance) l.row l.values;
}
