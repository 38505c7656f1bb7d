use Rattle.std.proofs.Common.{◌≡◌, ◌+◌, ◌++◌, drop}
use Rattle.fixed_leaf.specs.inner.Priced.{listed_from}
use Rattle.fixed_leaf.proofs.prices.listed.Given as goal

abbrev pub invariant-loop-price : goal.invariant-loop-price
invariant-loop-price l = (l.arc ≡ l.price-index) × (l.listed ++ listed_from (l.arc + 1) (drop l.price-index l.prices) ≡ listed_from 1 l.prices)
