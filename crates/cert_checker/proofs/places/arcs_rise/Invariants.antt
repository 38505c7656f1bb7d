use Rattle.std.proofs.Common.{◌≡◌, drop}
use Rattle.std.specs.Prelude.{unsigned_abs}
use Rattle.cert_checker.specs.inner.Rising.{rises, is_price}
use Rattle.cert_checker.proofs.places.arcs_rise.Given as goal

abbrev pub invariant-loop-listed : goal.invariant-loop-listed
invariant-loop-listed l = rises (λ x. x.arc) (λ x. is_price (unsigned_abs x.price)) 0 l.prices ≡ rises (λ x. x.arc) (λ x. is_price (unsigned_abs x.price)) l.last (drop l.listed-index l.prices)
