use Rattle.std.proofs.Common.{◌≡◌, ℕ, length, rules, arith}
use Rattle.std.proofs.lemmas.List.{length-append}
use Rattle.std.specs.Prelude.{Contains}
use Rattle.lift_build.proofs.MainsOf.{places-more}
use Rattle.lift_build.proofs.mains.places_of.Goals as goal

pub place_of-requires : goal.place_of-requires
place_of-requires g c =
    let there : Contains c.args.sorted.now c.label-item.result = rw c.label-item.is (c.requires.there c.loop-label.label-index c.label-item.result c.loop-label-test.true) in
    (search rules, (c.requires.small, (c.requires.ordered, there)))

pub loop-label-preserved : goal.loop-label-preserved
loop-label-preserved g c =
    rw c.in_ok-push.ensures.items (record {
      count = omega (arith, length-append {A = ℕ}, c.loop-label.invariant.count);
      each = places-more c.args.labels.now c.args.sorted.now c.loop-label.label-index c.label-item.result c.loop-label.places.items c.place_of.result c.loop-label-test.true c.label-item.is c.loop-label.invariant.count c.loop-label.invariant.each c.place_of.ensures;
    })

pub returns : goal.returns
returns g c =
    let whole : c.loop-label.label-index ≡ length c.args.labels.now = omega arith in
    record {
      count = omega (arith, c.loop-label.invariant.count);
      each = λ v low high. c.loop-label.invariant.each v low (omega arith);
    }
