use Rattle.std.proofs.Common.{◌*◌, ◌<◌, ℕ, List, length, get_or, refl, sym, ap, subst, ◌∙◌}
use Rattle.packing_laws.specs.declared.packings.Count.{Count}
use Rattle.packing_laws.specs.Instances.{IsAmong}
use Rattle.pattern_extract.specs.Trims.{IsReduced}
use Rattle.pattern_extract.proofs.Reducing.{reduced-next, reduced-all}
use Rattle.pattern_extract.proofs.trims.reduced.Goals as goal

pub loop-count-preserved : goal.loop-count-preserved
loop-count-preserved c =
    let counts = c.as_slice-counts.result.now in
    let n = c.loop-count.count-index in
    let m : Count = get_or counts n (record { item = 0; form = 0; count = 0 }) in
    let times = c.args.bin.now.times in
    let taken = c.spare-taken.result in
    let own : IsAmong m.item (length c.args.surplus.now) = subst (λ (cs : List Count). IsAmong (get_or cs n (record { item = 0; form = 0; count = 0 })).item (length c.args.surplus.now)) (sym c.as_slice-counts.ensures) (c.requires.there n (record { item = 0; form = 0; count = 0 }) (subst (λ (cs : List Count). n < length cs) c.as_slice-counts.ensures c.loop-count-test.true)) in
    reduced-next times n counts c.loop-count.kept.items c.args.surplus.now c.loop-count.surplus m taken (c.from.result * c.from-in-loop-count.result) c.put_rest.new.kept.items
    c.loop-count.invariant c.loop-count-test.true refl c.spare-taken.ensures.count c.spare-taken.ensures.most c.spare-taken.ensures.all own c.loop-count.auto.surplus
    (ap (λ (x : ℕ). x * c.from-in-loop-count.result) c.from.ensures ∙ ap (λ (x : ℕ). taken * x) c.from-in-loop-count.ensures)
    c.in_ok-put_rest.ensures

pub returns : goal.returns
returns c =
    let counts = c.as_slice-counts.result.now in
    let all = reduced-all c.args.bin.now.times c.loop-count.count-index counts c.loop-count.kept.items c.args.surplus.now c.loop-count.surplus c.loop-count-test.false c.loop-count.invariant in
    subst (λ (old : List Count). IsReduced c.args.bin.now.times old c.loop-count.kept.items c.args.surplus.now c.loop-count.surplus) c.as_slice-counts.ensures all
