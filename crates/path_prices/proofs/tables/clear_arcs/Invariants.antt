use Rattle.std.proofs.Common.{drop}
use Rattle.path_prices.proofs.Laying.{HoldsFewArcs}
use Rattle.path_prices.proofs.tables.clear_arcs.Given as goal

abbrev pub invariant-loop-listed : goal.invariant-loop-listed
invariant-loop-listed l = HoldsFewArcs (drop l.listed-index l.prices) l.table
