use Rattle.std.proofs.Common.{arith}
use Rattle.path_prices.proofs.Worths.{enough-test}
use Rattle.path_prices.proofs.bounds.is_enough.Goals as goal

pub returns-in-Bound : goal.returns-in-Bound
returns-in-Bound c = enough-test c.args.claim.now c.args.scale c.in-Bound.bound c.args.worth c.below_bound.result c.in-Bound.is (let h = c.if-scale-eq0.false in omega (arith, h)) c.ranges.worth (record { sfits = c.below_bound.type_inv }) c.below_bound.ensures
