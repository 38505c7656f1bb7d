-- One more cap is kept, and all are.
use Rattle.std.proofs.Common.{◌≡◌, ℕ, ◌<◌, List, refl, arith, get_or}
use Rattle.packing_laws.specs.declared.instances.ItemCap.{ItemCap}
use Rattle.packing_laws.specs.Packings.{count_of_item}
use Rattle.packing_laws.proofs.CapLaws.{kept-more, kept-all, not-kept}
use Rattle.packing_laws.proofs.checks.keeps_caps.Goals as goal

pub loop-cap-preserved : goal.loop-cap-preserved
loop-cap-preserved c =
    let nothing : ItemCap = record { item = 0; count = 0 } in
    let cap : ItemCap = get_or c.args.caps.now c.loop-cap.cap-index nothing in
    let units : c.units.result ≡ count_of_item cap.item c.args.counts.now = c.units.ensures.value in
    kept-more (λ i. count_of_item i c.args.counts.now) c.args.caps.now c.loop-cap.cap-index nothing c.loop-cap-test.true c.loop-cap.invariant (omega (arith, units, c.from.ensures, c.if-units-from.false))

pub returns : goal.returns
returns c = ((λ _. kept-all (λ i. count_of_item i c.args.counts.now) c.args.caps.now c.loop-cap.cap-index c.loop-cap-test.false c.loop-cap.invariant), λ _. refl)
