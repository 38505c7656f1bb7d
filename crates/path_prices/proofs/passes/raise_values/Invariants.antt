use Rattle.std.proofs.Common.{drop}
use Rattle.path_prices.specs.inner.Passes.{price_on}
use Rattle.path_prices.proofs.BestWays.{AreBest}
use Rattle.path_prices.proofs.passes.raise_values.Given as goal

abbrev pub invariant-loop-index : goal.invariant-loop-index
invariant-loop-index l = AreBest (price_on l.items l.own l.arcs) l.initial.values l.index (drop l.index l.arcs) l.values
