use Rattle.std.proofs.Common.{◌≡◌, ◌<◌, ◌≤◌, ⊎_elim, subst, arith}
use Rattle.std.proofs.lemmas.Bool.{cases_lt}
use Rattle.path_prices.specs.Excess.{GainsItsCost}
use Rattle.path_prices.proofs.Worths.{gain-within}
use Rattle.path_prices.proofs.laid.laid_excess.Goals as goal

pub loop-t-preserved : goal.loop-t-preserved
loop-t-preserved c = λ p are scale laid s low below. ⊎_elim
    (λ (lt : s < c.loop-t.t). c.loop-t.invariant p are scale laid s low lt)
    (λ (ge : c.loop-t.t ≤ s).
    let same : c.loop-t.t ≡ s = omega (arith, ge, below) in
    subst (GainsItsCost c.args.instance.now c.args.graph.now p) same
    (gain-within c.args.instance.now c.args.graph.now p c.loop-t.t c.args.scale c.laid_gain.result c.scaled_cost.result (c.laid_gain.ensures p are laid) scale (record { sfits = c.laid_gain.type_inv }) (record { sfits = c.scaled_cost.type_inv }) c.scaled_cost.ensures c.if-laid_gain-scaled_cost.false))
    (cases_lt s c.loop-t.t)
