-- One more dimension, with a greater floor or without.
use Rattle.std.proofs.Common.{◌≡◌, ℕ, ◌+◌, ◌-◌, ◌≤◌, suc, subst, sym, arith}
use Rattle.packing_laws.specs.Instances.{InstanceValue}
use Rattle.packing_laws.specs.inner.Offers.{IsGreatestOf}
use Rattle.packing_laws.proofs.SourceSteps.{greatest-more, greatest-same}
use Rattle.packing_laws.proofs.sources.greatest_dim.Goals as goal
use Rattle.packing_laws.proofs.sources.greatest_dim.Goals.{then-floor-greatest, else-floor-greatest}

pub loop-d-preserved : goal.loop-d-preserved
loop-d-preserved c =
    let I : InstanceValue = c.args.instance.now in
    let d : ℕ = c.loop-d.d in
    let low : 1 ≤ d = c.loop-d.auto.d in
    let is : d ≡ suc (d - 1) = omega (arith, low) in
    let index : d + 1 - 1 ≡ d = omega arith in
    elim c.if-floor-greatest.branch [
      | then-floor-greatest w ↦ rw (index, w.greatest-is, w.dim-is) (greatest-more I (d - 1) d c.loop-d.greatest c.floor_in-floor.result c.loop-d.dim is c.floor_in-floor.ensures w.if-floor-greatest.true c.loop-d.invariant)
      | else-floor-greatest w ↦ rw (index, w.greatest-is, w.dim-is) (greatest-same I (d - 1) d c.loop-d.greatest c.floor_in-floor.result c.loop-d.dim is c.floor_in-floor.ensures w.if-floor-greatest.false c.loop-d.invariant)
    ]
