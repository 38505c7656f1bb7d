-- One more item, with a demand or without; and all of them.
use Rattle.std.proofs.Common.{◌≡◌, ℕ, ◌+◌, ◌<◌, [], ◌∷◌, ◌++◌, List, length, ap, arith}
use Rattle.packing_laws.specs.declared.instances.Item.{Item}
use Rattle.packing_laws.specs.declared.packings.Bin.{Bin}
use Rattle.packing_laws.specs.declared.single.Choice.{Choice}
use Rattle.packing_laws.specs.Instances.{InstanceValue, IsInstance, item_at}
use Rattle.packing_laws.proofs.OneUnitBins.{AreApart, unit_bin, item-by_number, AreApart-skipped, AreApart-more, AreApart-packing, AreApart-one, AreApart-cost}
use Rattle.packing_laws.proofs.apart.units_apart.Goals as goal
use Rattle.packing_laws.proofs.apart.units_apart.Goals.{then-item-gt0+in-Some+in_ok-one_unit-in-Some+in_ok-push-in-Some, else-item-gt0}

pub loop-at-preserved : goal.loop-at-preserved
loop-at-preserved c =
    let I : InstanceValue = c.args.instance.now in
    let n : ℕ = c.loop-at.at in
    let x : Item = c.item-item.result in
    let bins : List Bin = c.loop-at.bins.items in
    let inside : IsInstance I = c.known.ensures in
    let here : x ≡ item_at I (n + 1) = item-by_number I c.items-item-items.result.now n x c.items-item-items.ensures.value c.loop-at-test.true c.item-item.is in
    let within : n < length I.items = omega (arith, ap length c.items-item-items.ensures.value) in
    elim c.if-item-gt0.branch [
      | then-item-gt0+in-Some+in_ok-one_unit-in-Some+in_ok-push-in-Some w ↦
          let choice : Choice = w.in-Some.choice in
          let more : AreApart I (n + 1) (bins ++ unit_bin choice (n + 1) x.demand ∷ []) = AreApart-more I n bins x choice inside within here w.if-item-gt0.true w.in-Some.ensures.some c.loop-at.invariant in
          let pushed : w.push.new.self.items ≡ bins ++ w.in_ok-one_unit-in-Some.field-0 ∷ [] = w.in_ok-push-in-Some.ensures.items in
          let bin : w.in_ok-one_unit-in-Some.field-0 ≡ unit_bin choice (n + 1) x.demand = w.in_ok-one_unit-in-Some.ensures in
          rw (w.bins-is, pushed, bin) more
      | else-item-gt0 w ↦ rw w.bins-is (AreApart-skipped I n bins x within here (omega (arith, w.if-item-gt0.false)) c.loop-at.invariant)
    ]

pub returns-clause-packing : goal.returns-clause-packing
returns-clause-packing c =
    rw c.new.ensures (AreApart-packing c.args.instance.now c.loop-at.at c.loop-at.bins.items (omega (arith, ap length c.items-item-items.ensures.value)) c.loop-at.invariant)

pub returns-clause-one_each : goal.returns-clause-one_each
returns-clause-one_each c = rw c.new.ensures (AreApart-one c.args.instance.now c.loop-at.at c.loop-at.bins.items c.loop-at.invariant)

pub returns-clause-cost : goal.returns-clause-cost
returns-clause-cost c =
    rw c.new.ensures (AreApart-cost c.args.instance.now c.loop-at.at c.loop-at.bins.items (omega (arith, ap length c.items-item-items.ensures.value)) c.loop-at.invariant)
