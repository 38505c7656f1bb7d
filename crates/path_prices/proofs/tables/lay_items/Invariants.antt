use Rattle.std.proofs.Common.{drop}
use Rattle.path_prices.specs.inner.Tables.{HoldsItems}
use Rattle.path_prices.proofs.tables.lay_items.Given as goal

abbrev pub invariant-loop-index : goal.invariant-loop-index
invariant-loop-index l = HoldsItems (drop l.index l.prices) l.table
