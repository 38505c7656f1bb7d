use Rattle.std.proofs.Common.{◌≡◌, ◌≤◌, ◌*◌, ◌^◌, take}
use Rattle.flow_model.specs.Flows.{arc_cost, weigh_arcs}
use Rattle.needs_check.proofs.costs.row_cost.Given as goal

abbrev pub invariant-loop-index : goal.invariant-loop-index
invariant-loop-index l = record {
  small : l.cost ≤ l.index * 2 ^ 96;
  sum : l.cost ≡ weigh_arcs (arc_cost l.instance) (take l.index l.row) (take l.index l.values);
}
