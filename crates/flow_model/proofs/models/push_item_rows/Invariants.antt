use Rattle.std.proofs.Common.{◌≡◌, ◌++◌, map}
use Rattle.flow_model.specs.Models.{item_row}
use Rattle.flow_model.specs.Flows.{up_to}
use Rattle.flow_model.proofs.models.push_item_rows.Given as goal

abbrev pub invariant-loop-item : goal.invariant-loop-item
invariant-loop-item l = (l.number ≡ l.item-index) × (l.rows.items ≡ l.initial.rows.items ++ map (item_row l.instance) (up_to l.item-index))
