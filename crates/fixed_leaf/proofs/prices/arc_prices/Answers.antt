-- The price of one more arc.
use Rattle.std.proofs.Common.{ℕ, ℤ, ◌∙◌, ◌^◌, ◌≤◌, sym, subst, arith}
use Rattle.std.specs.Prelude.{unsigned_abs}
use Rattle.fixed_leaf.proofs.Excesses.{kept}
use Rattle.fixed_leaf.proofs.Priced.{prices_more}
use Rattle.fixed_leaf.proofs.prices.arc_prices.Goals as goal

pub loop-index-preserved : goal.loop-index-preserved
loop-index-preserved c =
    let i : ℕ = c.loop-index.index in
    let within = c.loop-index-test.true in
    let size = c.requires.size in
    let own = kept c.arc_price-price.result c.arc_price-price.ensures.small in
    prices_more c.args.instance.now c.args.row.now c.args.joints.now c.args.fault c.args.heights.now i c.loop-index.prices.items c.push.new.self.items _ _ (omega (arith, within, size)) c.loop-index.invariant (own ∙ c.arc_price-price.ensures.value) (subst (λ (z : ℤ). unsigned_abs z ≤ 2 ^ 62) (sym own) c.arc_price-price.ensures.small) c.in_ok-push.ensures.items
