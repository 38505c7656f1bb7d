-- The prices of the items so far.
use Rattle.std.proofs.Common.{◌≡◌, map, filter, nat_lt}
use Rattle.flow_model.specs.Flows.{up_to}
use Rattle.bound_certificates.specs.MaterialPrices.{weight_price}
use Rattle.bound_certificates.proofs.material.weight_prices.Given as goal

abbrev pub invariant-loop-index : goal.invariant-loop-index
invariant-loop-index l = l.prices ≡ filter (λ x. nat_lt 0 x.price) (map (weight_price l.instance l.dim l.cost) (up_to l.index))
