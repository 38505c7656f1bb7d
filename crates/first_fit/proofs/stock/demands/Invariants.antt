-- The demands of the items so far.
use Rattle.std.proofs.Common.{◌≡◌, map, take}
use Rattle.first_fit.proofs.stock.demands.Given as goal

abbrev pub invariant-loop-item : goal.invariant-loop-item
invariant-loop-item l = l.rest.items ≡ map (λ x. x.demand) (take l.item-index l.item-items)
