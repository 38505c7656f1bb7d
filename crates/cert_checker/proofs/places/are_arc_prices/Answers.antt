use Rattle.std.specs.Prelude.{unsigned_abs}
use Rattle.cert_checker.proofs.Ascents.{rises_exactly}
use Rattle.cert_checker.proofs.places.are_arc_prices.Goals as goal

pub returns : goal.returns
returns c = rises_exactly (λ x. x.arc) (λ x. unsigned_abs x.price) c.args.prices.now c.arcs_rise.result c.arcs_rise.ensures
