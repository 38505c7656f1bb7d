-- The material prices as a leaf.
use Rattle.std.proofs.Common.{refl, sym, subst}
use Rattle.cert_text.specs.declared.lines.TreeLine.TheVariants.{Leaf}
use Rattle.bound_certificates.specs.FoundBounds.{IsTreeOf}
use Rattle.bound_certificates.specs.declared.found.BoundKind.{BoundKind}
use Rattle.bound_certificates.proofs.certificates.tree_line.Goals as goal

pub returns-in_ok-material_prices-in-Material : goal.returns-in_ok-material_prices-in-Material
returns-in_ok-material_prices-in-Material c =
    let prices = c.in_ok-material_prices-in-Material.field-0 in
    subst (λ (kind : BoundKind). IsTreeOf c.args.instance.now kind (Leaf prices)) (sym c.in-Material.is) (prices, refl, c.in_ok-material_prices-in-Material.ensures)
