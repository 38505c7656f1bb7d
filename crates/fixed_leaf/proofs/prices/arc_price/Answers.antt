-- The parts of the price are small.
use Rattle.std.proofs.Common.{◌≡◌, ℕ, ℤ, ◌≤◌, ◌^◌, ◌∙◌, ◌+ℤ◌, ◌-ℤ◌, pos, ap, arith, subst, sym}
use Rattle.std.specs.Prelude.{unsigned_abs}
use Rattle.fixed_leaf.specs.inner.Priced.{carried_by, height_in}
use Rattle.fixed_leaf.proofs.Priced.{price_fits, price_kept, price_small}
use Rattle.fixed_leaf.proofs.prices.arc_price.Goals as goal

few : (z : ℤ) (n : ℕ) → z ≡ pos n → n ≤ 1 → unsigned_abs z ≤ 1
few z n is small = let same : unsigned_abs z ≡ n = ap unsigned_abs is in omega (arith, same, small)

pub overflow_sub-result : goal.overflow_sub-result
overflow_sub-result c = price_fits (height_in c.args.heights.now c.args.joint.now.head) (height_in c.args.heights.now c.args.joint.now.tail) c.scaled_cost-cost.result c.carried.result (c.requires.small c.args.joint.now.head) (c.requires.small c.args.joint.now.tail) c.scaled_cost-cost.ensures.small (few c.carried.result (carried_by c.args.fault c.args.kind.now) c.carried.ensures.value c.carried.ensures.small)

pub returns-clause-value : goal.returns-clause-value
returns-clause-value c =
    price_kept (height_in c.args.heights.now c.args.joint.now.head) (height_in c.args.heights.now c.args.joint.now.tail) c.scaled_cost-cost.result c.carried.result (c.requires.small c.args.joint.now.head) (c.requires.small c.args.joint.now.tail) c.scaled_cost-cost.ensures.small (few c.carried.result (carried_by c.args.fault c.args.kind.now) c.carried.ensures.value c.carried.ensures.small)
    ∙ (λ k. ((height_in c.args.heights.now c.args.joint.now.head -ℤ height_in c.args.heights.now c.args.joint.now.tail) +ℤ c.scaled_cost-cost.ensures.value k) -ℤ c.carried.ensures.value k)

pub returns-clause-small : goal.returns-clause-small
returns-clause-small c =
    let same = ap unsigned_abs (price_kept (height_in c.args.heights.now c.args.joint.now.head) (height_in c.args.heights.now c.args.joint.now.tail) c.scaled_cost-cost.result c.carried.result (c.requires.small c.args.joint.now.head) (c.requires.small c.args.joint.now.tail) c.scaled_cost-cost.ensures.small (few c.carried.result (carried_by c.args.fault c.args.kind.now) c.carried.ensures.value c.carried.ensures.small)) in
    let small = price_small (height_in c.args.heights.now c.args.joint.now.head) (height_in c.args.heights.now c.args.joint.now.tail) c.scaled_cost-cost.result c.carried.result (c.requires.small c.args.joint.now.head) (c.requires.small c.args.joint.now.tail) c.scaled_cost-cost.ensures.small (few c.carried.result (carried_by c.args.fault c.args.kind.now) c.carried.ensures.value c.carried.ensures.small) in
    subst (λ (n : ℕ). n ≤ 2 ^ 62) (sym same) small
