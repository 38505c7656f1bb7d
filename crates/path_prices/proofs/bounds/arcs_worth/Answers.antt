use Rattle.std.proofs.Common.{◌≡◌, ℕ, ◌-◌, ◌<◌, suc, pos, to_z, length, subst, arith}
use Rattle.std.specs.Int.{w128}
use Rattle.path_prices.proofs.Worths.{IsWorth, arc-added}
use Rattle.path_prices.proofs.bounds.arcs_worth.Goals as goal

pub loop-index-preserved : goal.loop-index-preserved
loop-index-preserved c =
    let k : ℕ = c.loop-index.index - 1 in
    let next : c.loop-index.index ≡ suc k = omega arith in
    let within : k < length c.args.listed.now = omega arith in
    arc-added c.args.ranges.now c.args.listed.now k (record { arc = 0; price = pos 0 }) c.arc_worth-part.result (to_z w128 c.loop-index.total-bits) within c.requires.few c.arc_worth-part.ensures.value c.arc_worth-part.ensures.small
    (subst (λ (n : ℕ). IsWorth c.args.ranges.now c.args.listed.now n (to_z w128 c.loop-index.total-bits)) next c.loop-index.invariant)
