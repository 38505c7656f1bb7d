use Rattle.std.proofs.Common.{arith}
use Rattle.search_states.proofs.MaterialSizes.{small_material}
use Rattle.search_states.proofs.states.small_material.Goals as goal

pub overflow_cast-result : goal.overflow_cast-result
overflow_cast-result c =
    let small = small_material c.material_is_floor.ensures c.single_is_reached.ensures c.args.instance.now c.known.ensures c.requires in
    let value = c.material_bound.ensures in
    omega (arith, small, value)

pub returns-clause-small : goal.returns-clause-small
returns-clause-small c =
    let small = small_material c.material_is_floor.ensures c.single_is_reached.ensures c.args.instance.now c.known.ensures c.requires in
    let value = c.material_bound.ensures in
    omega (arith, small, value)
