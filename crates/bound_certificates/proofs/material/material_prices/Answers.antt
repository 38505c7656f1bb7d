-- The prices come from the greatest floor.
use Rattle.std.proofs.lemmas.Result.{IfOk-weaker}
use Rattle.bound_certificates.specs.MaterialPrices.{IsMaterialPrices, some}
use Rattle.bound_certificates.proofs.material.material_prices.Goals as goal

pub returns-in-Some : goal.returns-in-Some
returns-in-Some c =
    let known = c.in-Some.ensures in
    IfOk-weaker c.prices_from.result _ (IsMaterialPrices c.args.instance.now) (λ p is. some c.in-Some.source.dim c.in-Some.source.bin_type known.dim known.bin_type is) c.prices_from.ensures
