-- One more item, and all of them.
use Rattle.std.proofs.Common.{◌≡◌, ℕ, ◌-◌, ◌∙◌, List, All, take, slice_index, subst, arith}
use Rattle.std.proofs.lemmas.List.{take_all}
use Rattle.packing_laws.specs.declared.instances.Item.{Item}
use Rattle.packing_laws.specs.Instances.{InstanceValue}
use Rattle.step_bounds.specs.inner.Looks.{HasLooked}
use Rattle.step_bounds.proofs.Looked.{items-more}
use Rattle.step_bounds.proofs.Reach.{looked-best}
use Rattle.step_bounds.proofs.bounds.best_in.Goals as goal

pub loop-item-preserved : goal.loop-item-preserved
loop-item-preserved c = record {
  found = c.best_with_forms-best.ensures.improved.found;
  start = c.best_with_forms-best.ensures.improved.beats 0 c.loop-item.invariant.start;
  looked = items-more c.args.instance.now c.args.dim c.loop-item.best c.best_with_forms-best.result c.best_with_forms-best.ensures.improved c.items-item-items.result.now c.loop-item.item-index c.item-item.result c.as_slice.result.now c.loop-item-test.true c.item-item.is c.as_slice.ensures c.best_with_forms-best.ensures.looked c.loop-item.invariant.looked;
}

pub returns : goal.returns
returns c =
    let I : InstanceValue = c.args.instance.now in
    let d : ℕ = c.args.dim in
    let all : take c.loop-item.item-index c.items-item-items.result.now ≡ I.items = take_all c.loop-item.item-index c.items-item-items.result.now (omega arith) ∙ c.items-item-items.ensures.value in
    looked-best I d c.loop-item.best c.loop-item.invariant.found c.loop-item.invariant.start (subst (λ (xs : List Item). All (λ x. All (λ v. HasLooked I d c.loop-item.best (slice_index v (d - 1))) x.forms) xs) all c.loop-item.invariant.looked)
