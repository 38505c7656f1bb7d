use Rattle.std.proofs.Common.{◌≡◌, ℕ, length, Vec, Global, refl, sym, ap, ◌∙◌, subst, All}
use Rattle.packing_laws.specs.declared.packings.Bin.{Bin}
use Rattle.packing_laws.specs.Instances.{IsAmong}
use Rattle.pattern_extract.specs.Trims.{surplus_at}
use Rattle.pattern_extract.proofs.Trimming.{done-on, split-on}
use Rattle.pattern_extract.proofs.trims.trim_bin.Goals as goal
use Rattle.pattern_extract.proofs.trims.trim_bin.Goals.{in-None+in_ok-push-in-None, in-Some+in_ok-push_parts-in-Some}

pub split_off-requires-clause-there : goal.split_off-requires-clause-there
split_off-requires-clause-there c =
    let kept = c.in_ok-counts.ensures.items (length c.args.surplus.now) c.requires.there in
    let sized = subst (λ (n : ℕ). All (λ m. IsAmong m.item n) c.in_ok-counts.counts.items) (sym c.reduced.auto.surplus) kept in
    subst (All (λ m. IsAmong m.item (length c.reduced.new.surplus))) (sym c.as_slice.ensures.value) sized

pub returns-clause-on : goal.returns-clause-on
returns-clause-on c =
    let kept = c.in_ok-counts.counts.items in
    let after = c.reduced.new.surplus in
    elim c.match-split_off.branch [
      | in-None+in_ok-push-in-None w ↦
          done-on c.args.pending.now.items c.args.done.now.items c.args.surplus.now after c.args.bin kept c.match-split_off.pending.items c.match-split_off.done.items w.new.result
          c.reduced.auto.surplus c.in_ok-counts.ensures
          (subst (All (λ n. surplus_at after n.item ≡ 0)) c.as_slice.ensures.value (w.in-None.ensures.none refl))
          (ap (λ (v : Vec Bin Global). v.items) w.pending-is)
          (ap (λ (v : Vec Bin Global). v.items) w.done-is ∙ w.in_ok-push-in-None.ensures.items)
          w.new.ensures
      | in-Some+in_ok-push_parts-in-Some w ↦
          split-on c.args.pending.now.items c.args.done.now.items c.args.surplus.now after c.args.bin kept w.in-Some.times c.match-split_off.pending.items c.match-split_off.done.items
          c.reduced.auto.surplus c.in_ok-counts.ensures w.in-Some.ensures.some.0 w.in-Some.ensures.some.1
          (ap (λ (v : Vec Bin Global). v.items) w.pending-is ∙ w.in_ok-push_parts-in-Some.ensures)
          (ap (λ (v : Vec Bin Global). v.items) w.done-is)
    ]
