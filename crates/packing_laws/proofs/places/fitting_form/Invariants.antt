-- No form so far fits.
use Rattle.std.proofs.Common.{◌≡◌, false, take}
use Rattle.std.specs.List.{list_any}
use Rattle.packing_laws.specs.Floors.{vector_fits}
use Rattle.packing_laws.proofs.places.fitting_form.Given as goal

abbrev pub invariant-loop-at : goal.invariant-loop-at
invariant-loop-at l = list_any (λ v. vector_fits v l.cap) (take l.at l.forms) ≡ false
