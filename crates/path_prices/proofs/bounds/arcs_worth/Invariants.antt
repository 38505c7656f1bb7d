use Rattle.path_prices.proofs.Worths.{IsWorth}
use Rattle.path_prices.proofs.bounds.arcs_worth.Given as goal

abbrev pub invariant-loop-index : goal.invariant-loop-index
invariant-loop-index l = IsWorth l.ranges l.listed l.index l.total
