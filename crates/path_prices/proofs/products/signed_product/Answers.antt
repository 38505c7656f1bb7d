use Rattle.std.proofs.Common.{◌≤◌, ◌^◌, sym, subst, arith}
use Rattle.path_prices.specs.inner.Tables.{IsWithin}
use Rattle.path_prices.proofs.Worths.{product-handed, product-within}
use Rattle.path_prices.proofs.products.signed_product.Goals as goal

pub returns : goal.returns
returns c =
    let few : c.args.count ≤ 2 ^ 32 = omega arith in
    let value = product-handed c.args.price c.from.result c.from-2.result c.args.count c.requires few c.from.ensures c.from-2.ensures in
    record { value = value; small = subst (IsWithin (2 ^ 94)) (sym value) (product-within c.args.price c.args.count c.requires few) }
