use Rattle.cert_checker.proofs.Ascents.{rises_exactly}
use Rattle.cert_checker.proofs.places.are_item_prices.Goals as goal

pub returns : goal.returns
returns c = rises_exactly (λ x. x.item) (λ x. x.price) c.args.prices.now c.items_rise.result c.items_rise.ensures
