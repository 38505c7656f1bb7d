use Rattle.path_prices.specs.inner.Passes.{carried_in}
use Rattle.path_prices.proofs.BestWays.{goes-test}
use Rattle.path_prices.proofs.passes.goes_on.Goals as goal

pub returns-then-arc-node : goal.returns-then-arc-node
returns-then-arc-node c =
    goes-test c.args.own (carried_in c.args.items.now c.args.arc.now) c.args.values.now c.args.arc.now.tail c.args.arc.now.head c.args.node c.args.left c.whole_price.result c.requires.own c.ranges.left c.requires.values c.whole_price.ensures.small c.whole_price.ensures.value c.if-arc-node.true
