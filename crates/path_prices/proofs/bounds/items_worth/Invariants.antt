use Rattle.std.proofs.Common.{◌≡◌, ◌-◌, ◌*◌, ◌^◌, ◌≤◌, map, take, get_or}
use Rattle.std.specs.Prelude.{sum_by}
use Rattle.path_prices.proofs.bounds.items_worth.Given as goal

abbrev pub invariant-loop-price : goal.invariant-loop-price
invariant-loop-price l = record {
  small : l.total ≤ l.price-index * 2 ^ 82;
  sum : l.total ≡ sum_by (λ x. get_or (map (λ x. x.demand) l.instance.items) (x.item - 1) 0 * x.price) (take l.price-index l.listed);
}
