use Rattle.std.proofs.Common.{[], ◌∷◌, None, subst, ap, ◌∙◌}
use Rattle.cert_text.specs.declared.lines.Claim.TheVariants.{Empty}
use Rattle.cert_text.specs.declared.lines.Prices.{Prices}
use Rattle.cert_text.specs.Lines.{ArePrices}
use Rattle.branch_search.proofs.HomelessItems.{tree_shown}
use Rattle.branch_search.proofs.homeless.homeless_outcome.Goals as goal

pub certificate_of-requires-clause-shown : goal.certificate_of-requires-clause-shown
certificate_of-requires-clause-shown c =
    let value = c.in_ok-price_of_one.ensures.value in
    tree_shown c.args.instance.now c.known.ensures c.args.graph.now c.requires.faithful c.args.item c.requires.homeless (subst ArePrices value c.in_ok-price_of_one.ensures.told) c.in_ok-root.root c.in_ok-tree.tree
    (c.in_ok-tree.ensures ∙ ap (λ (p : Prices). record { root = c.in_ok-root.root; places = record { cuts = []; shown = record { prices = p; claim = Empty }; split = None; need = None } ∷ [] }) value)
