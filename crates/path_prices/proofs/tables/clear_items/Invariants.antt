use Rattle.std.proofs.Common.{drop}
use Rattle.path_prices.proofs.Laying.{HoldsFewItems}
use Rattle.path_prices.proofs.tables.clear_items.Given as goal

abbrev pub invariant-loop-listed : goal.invariant-loop-listed
invariant-loop-listed l = HoldsFewItems (drop l.listed-index l.prices) l.table
