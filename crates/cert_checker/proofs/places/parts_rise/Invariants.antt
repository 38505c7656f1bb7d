use Rattle.std.proofs.Common.{◌≡◌, drop}
use Rattle.cert_checker.specs.inner.Rising.{rises, is_price}
use Rattle.cert_checker.proofs.places.parts_rise.Given as goal

abbrev pub invariant-loop-listed : goal.invariant-loop-listed
invariant-loop-listed l = rises (λ x. x.arc) (λ x. is_price x.value) 0 l.parts ≡ rises (λ x. x.arc) (λ x. is_price x.value) l.last (drop l.listed-index l.parts)
