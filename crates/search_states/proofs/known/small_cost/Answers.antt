use Rattle.std.proofs.Common.{arith}
use Rattle.search_states.proofs.KnownCosts.{cost_small}
use Rattle.search_states.proofs.known.small_cost.Goals as goal

pub overflow_cast-result : goal.overflow_cast-result
overflow_cast-result c =
    let small = cost_small c.args.instance.now c.args.packing.now c.known.ensures c.requires.packing c.requires.tidy in
    let value = c.cost.ensures in
    omega (arith, small, value)

pub returns-clause-small : goal.returns-clause-small
returns-clause-small c =
    let small = cost_small c.args.instance.now c.args.packing.now c.known.ensures c.requires.packing c.requires.tidy in
    let value = c.cost.ensures in
    omega (arith, small, value)
