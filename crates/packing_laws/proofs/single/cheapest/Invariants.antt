-- The cheapest choice so far, and the costs that are left.
use Rattle.std.proofs.Common.{◌&&◌, map, filter, drop, IfSome, is_none}
use Rattle.std.specs.Option.{option_map}
use Rattle.packing_laws.specs.inner.Choices.{IsChoice}
use Rattle.packing_laws.specs.Floors.{item_fits, single_costs}
use Rattle.packing_laws.proofs.LeftOver.{IsLeftOf}
use Rattle.packing_laws.proofs.single.cheapest.Given as goal

abbrev pub invariant-loop-at : goal.invariant-loop-at
invariant-loop-at l = record {
  choice : IfSome l.best (IsChoice l.instance l.item);
  left : IsLeftOf (option_map (λ c. c.cost) l.best) (map (λ t. t.cost) (filter (λ t. is_none t.limit && item_fits l.item t) (drop l.at l.bin_type-items))) (single_costs l.instance l.item);
}
