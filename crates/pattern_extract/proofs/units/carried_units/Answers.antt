use Rattle.std.proofs.Common.{◌≡◌, ◌∙◌, ℕ, length, ap, arith}
use Rattle.pattern_extract.specs.Trims.{surplus_at}
use Rattle.pattern_extract.proofs.Surplus.{units-fit}
use Rattle.pattern_extract.proofs.units.carried_units.Goals as goal

pub add_units-requires-clause-small : goal.add_units-requires-clause-small
add_units-requires-clause-small c i among =
    let kept : length c.loop-place.units ≡ length c.in_ok-carried.carried.items = c.loop-place.auto.units ∙ ap (length {A = ℕ}) c.as_mut_slice-units.ensures.value in
    let long = c.in_ok-carried.ensures.len in
    units-fit c.args.row.now c.args.values.now c.loop-place.place i (surplus_at c.loop-place.units i) c.requires.size c.loop-place-test.true
    (c.loop-place.invariant i (among.0, omega (arith, among.1, kept, long))) (c.requires.small i)
