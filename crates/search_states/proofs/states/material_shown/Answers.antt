use Rattle.std.proofs.Common.{arith}
use Rattle.flow_model.specs.Boxes.{root_ranges}
use Rattle.search_states.proofs.Valued.{valued_material}
use Rattle.search_states.proofs.states.material_shown.Goals as goal

pub returns : goal.returns
returns c =
    let value = c.small_material.ensures.value in
    valued_material c.args.instance.now c.args.graph.now (root_ranges c.args.instance.now c.args.graph.now) c.in_ok-prices.prices c.small_material.result c.known-2.ensures c.requires.faithful (c.material_prices_close.ensures c.args.instance.now c.in_ok-prices.prices c.small_material.result c.known.ensures c.in_ok-prices.ensures (omega (arith, value))) c.small_material.ensures.small (omega (arith, value))
