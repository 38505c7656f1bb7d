use Rattle.cert_checker.proofs.Ascents.{rises_exactly}
use Rattle.cert_checker.proofs.places.are_parts.Goals as goal

pub returns : goal.returns
returns c = rises_exactly (λ x. x.arc) (λ x. x.value) c.args.parts.now c.parts_rise.result c.parts_rise.ensures
