-- One more item, with a demand or without.
use Rattle.std.proofs.Common.{◌≡◌, ℕ, ◌+◌, ◌*◌, ◌<◌, List, length, sum_by, take, ap, sym, subst, ◌∙◌, arith}
use Rattle.std.proofs.lemmas.List.Elements.{All-more}
use Rattle.std.proofs.lemmas.List.Sums.{sum_by_more}
use Rattle.packing_laws.specs.declared.instances.Item.{Item}
use Rattle.packing_laws.specs.Instances.{InstanceValue}
use Rattle.packing_laws.specs.Floors.{least_of, single_costs}
use Rattle.packing_laws.specs.inner.Choices.{IsCheapest}
use Rattle.packing_laws.proofs.single.single_cost.Goals as goal
use Rattle.packing_laws.proofs.single.single_cost.Goals.{then-item-gt0+in-Some, else-item-gt0}

pub loop-item-preserved : goal.loop-item-preserved
loop-item-preserved c =
    let I : InstanceValue = c.args.instance.now in
    let xs : List Item = c.items-item-items.result.now in
    let i : ℕ = c.loop-item.item-index in
    let x : Item = c.item-item.result in
    let within : i < length xs = c.loop-item-test.true in
    let P : Item → Type 0 = λ x. 0 < x.demand → 0 < length (single_costs I x) in
    let f : Item → ℕ = λ x. x.demand * least_of (single_costs I x) in
    let more : sum_by f (take (i + 1) xs) ≡ sum_by f (take i xs) + f x = sum_by_more f xs i x within ∙ ap (λ (y : Item). sum_by f (take i xs) + f y) (sym c.item-item.is) in
    let before : c.loop-item.total ≡ sum_by f (take i xs) = c.loop-item.invariant.sum in
    elim c.if-item-gt0.branch [
      | then-item-gt0+in-Some w ↦
          let cheapest : IsCheapest I x w.in-Some.choice = w.in-Some.ensures.some in
          let product : w.cost_of_units-total.result ≡ f x = w.cost_of_units-total.ensures.value ∙ ap (λ n. x.demand * n) cheapest.least in
          record {
            exists = All-more P xs i x within c.loop-item.invariant.exists (subst P c.item-item.is (λ _. cheapest.some));
            sum = w.total-is ∙ ap (λ n. n + w.cost_of_units-total.result) before ∙ ap (λ n. sum_by f (take i xs) + n) product ∙ sym more;
            small = omega (arith, w.total-is, c.loop-item.invariant.small, w.cost_of_units-total.ensures.small);
          }
      | else-item-gt0 w ↦
          let nothing : f x ≡ 0 * least_of (single_costs I x) = ap (λ n. n * least_of (single_costs I x)) (omega (arith, w.if-item-gt0.false)) in
          let same : sum_by f (take i xs) ≡ sum_by f (take (i + 1) xs) = omega (arith, nothing, more) in
          record {
            exists = All-more P xs i x within c.loop-item.invariant.exists (subst P c.item-item.is (λ some. absurd (omega (arith, some, w.if-item-gt0.false))));
            sum = w.total-is ∙ before ∙ same;
            small = omega (arith, w.total-is, c.loop-item.invariant.small);
          }
    ]
