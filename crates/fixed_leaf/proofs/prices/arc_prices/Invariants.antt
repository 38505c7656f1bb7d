use Rattle.fixed_leaf.proofs.Priced.{ArePricesTo}
use Rattle.fixed_leaf.proofs.prices.arc_prices.Given as goal

abbrev pub invariant-loop-index : goal.invariant-loop-index
invariant-loop-index l = ArePricesTo l.instance l.row l.joints l.fault l.heights l.index l.prices.items
