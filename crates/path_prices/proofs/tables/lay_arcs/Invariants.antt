use Rattle.std.proofs.Common.{drop}
use Rattle.path_prices.specs.inner.Tables.{HoldsArcs}
use Rattle.path_prices.proofs.tables.lay_arcs.Given as goal

abbrev pub invariant-loop-index : goal.invariant-loop-index
invariant-loop-index l = HoldsArcs (drop l.index l.prices) l.table
