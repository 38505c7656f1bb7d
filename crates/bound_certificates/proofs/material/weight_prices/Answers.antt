-- One more item.
use Rattle.std.proofs.Common.{◌≡◌, ℕ, ◌+◌, ◌-◌, ◌*◌, ◌∙◌, List, suc, ap, map, slice_index}
use Rattle.packing_laws.specs.Floors.{least_of}
use Rattle.cert_text.specs.declared.lines.ItemPrice.{ItemPrice}
use Rattle.bound_certificates.specs.MaterialPrices.{weight_price}
use Rattle.bound_certificates.proofs.WeightPrices.{next_free, next_listed, next_price}
use Rattle.bound_certificates.proofs.material.weight_prices.Goals as goal
use Rattle.bound_certificates.proofs.material.weight_prices.Goals.{then-price-gt0+in_ok-push, else-price-gt0}

pub loop-index-preserved : goal.loop-index-preserved
loop-index-preserved c =
    let next : ItemPrice = record { item = c.loop-index.index + 1; price = c.from.result * c.from-in-loop-index.result } in
    let own : next ≡ weight_price c.args.instance.now c.args.dim c.args.cost (suc c.loop-index.index) =
    next_price c.args.instance.now c.args.dim c.args.cost c.loop-index.index c.items-item-items.result.now c.item-item.result c.from.result c.from-in-loop-index.result c.items-item-items.ensures.value c.loop-index-test.true c.item-item.is (c.from.ensures ∙ c.lightest.ensures.value ∙ ap (λ (forms : List (List ℕ)). least_of (map (λ v. slice_index v (c.args.dim - 1)) forms)) c.as_slice.ensures) c.from-in-loop-index.ensures
    in
    elim c.if-price-gt0.branch [
      | then-price-gt0+in_ok-push w ↦ next_listed c.args.instance.now c.args.dim c.args.cost c.loop-index.index c.loop-index.prices c.if-price-gt0.prices next c.loop-index.invariant own w.if-price-gt0.true (w.prices-is ∙ w.in_ok-push.ensures.ok)
      | else-price-gt0 w ↦ next_free c.args.instance.now c.args.dim c.args.cost c.loop-index.index c.loop-index.prices c.if-price-gt0.prices next c.loop-index.invariant own w.if-price-gt0.false w.prices-is
    ]
