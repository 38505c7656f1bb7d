use Rattle.std.proofs.Common.{◌≡◌, drop}
use Rattle.cert_checker.specs.inner.Rising.{rises, is_price}
use Rattle.cert_checker.proofs.places.items_rise.Given as goal

abbrev pub invariant-loop-listed : goal.invariant-loop-listed
invariant-loop-listed l = rises (λ x. x.item) (λ x. is_price x.price) 0 l.prices ≡ rises (λ x. x.item) (λ x. is_price x.price) l.last (drop l.listed-index l.prices)
