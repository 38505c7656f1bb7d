use Rattle.std.proofs.Common.{◌≡◌, ℕ, ◌-◌, ◌<◌, suc, length, drop, subst, arith}
use Rattle.path_prices.specs.inner.Passes.{price_on}
use Rattle.path_prices.proofs.BestWays.{AreBest, best-start, price-is, head-within, all-within, sum-fits, one-more}
use Rattle.path_prices.proofs.passes.raise_values.Goals as goal

pub loop-index-init : goal.loop-index-init
loop-index-init c =
    best-start (price_on c.args.items.now c.args.own.now c.args.arcs.now) c.args.arcs.now (length c.args.arcs.now) c.args.values.now (omega arith)

pub overflow_add-there : goal.overflow_add-there
overflow_add-there c =
    let k : ℕ = c.loop-index.index - 1 in
    let within : k < length c.args.arcs.now = omega arith in
    let is = price-is c.args.arcs.now c.args.items.now c.args.own.now c.args.values.now c.requires.arcs c.requires.few c.requires.items c.requires.own c.requires.values k c.whole_price-price.result c.whole_price-price.ensures.value in
    let head = head-within c.args.arcs.now c.args.items.now c.args.own.now c.args.values.now c.requires.arcs c.requires.few c.requires.items c.requires.own c.requires.values k c.loop-index.index c.loop-index.values within c.loop-index.invariant in
    sum-fits c.args.arcs.now c.args.items.now c.args.own.now c.args.values.now c.requires.arcs c.requires.few c.requires.items c.requires.own c.requires.values k c.loop-index.index c.loop-index.values _ c.whole_price-price.result c.loop-index.invariant head is

pub loop-index-preserved : goal.loop-index-preserved
loop-index-preserved c =
    let k : ℕ = c.loop-index.index - 1 in
    let within : k < length c.args.arcs.now = omega arith in
    let e : c.loop-index.index ≡ suc k = omega arith in
    let price = price_on c.args.items.now c.args.own.now c.args.arcs.now in
    let best : AreBest price c.args.values.now (suc k) (drop (suc k) c.args.arcs.now) c.loop-index.values = subst (λ (n : ℕ). AreBest price c.args.values.now n (drop n c.args.arcs.now) c.loop-index.values) e c.loop-index.invariant in
    let is = price-is c.args.arcs.now c.args.items.now c.args.own.now c.args.values.now c.requires.arcs c.requires.few c.requires.items c.requires.own c.requires.values k c.whole_price-price.result c.whole_price-price.ensures.value in
    one-more c.args.arcs.now c.args.items.now c.args.own.now c.args.values.now c.requires.arcs c.requires.few c.requires.items c.requires.own c.requires.values k c.loop-index.values c.whole_price-price.result c.max.result within best is c.max.ensures.value

pub returns : goal.returns
returns c =
    let start : c.loop-index.index ≡ 0 = omega arith in
    let price = price_on c.args.items.now c.args.own.now c.args.arcs.now in
    let best : AreBest price c.args.values.now 0 (drop 0 c.args.arcs.now) c.loop-index.values = subst (λ (n : ℕ). AreBest price c.args.values.now n (drop n c.args.arcs.now) c.loop-index.values) start c.loop-index.invariant in
    record {
      within = all-within c.args.arcs.now c.args.items.now c.args.own.now c.args.values.now c.requires.arcs c.requires.few c.requires.items c.requires.own c.requires.values 0 c.loop-index.values best;
      best = best.each;
    }
