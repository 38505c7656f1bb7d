use Rattle.std.proofs.Common.{List, subst}
use Rattle.cert_text.specs.declared.lines.ItemPrice.{ItemPrice}
use Rattle.cert_text.specs.declared.lines.ArcPrice.{ArcPrice}
use Rattle.path_prices.specs.inner.Tables.{HoldsItems, HoldsArcs}
use Rattle.path_prices.proofs.PriceSizes.{laid-small}
use Rattle.path_prices.proofs.gains.lay.Goals as goal

pub returns-clause-small : goal.returns-clause-small
returns-clause-small c =
    laid-small c.args.prices.now c.lay_items.new.table c.lay_arcs.new.table c.requires.prices (record {
      items_laid = subst (λ (xs : List ItemPrice). HoldsItems xs c.lay_items.new.table) c.as_slice.ensures c.lay_items.ensures;
      arcs_laid = subst (λ (xs : List ArcPrice). HoldsArcs xs c.lay_arcs.new.table) c.as_slice-2.ensures c.lay_arcs.ensures;
    })
