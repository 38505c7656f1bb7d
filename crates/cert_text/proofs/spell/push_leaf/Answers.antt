use Rattle.std.proofs.Common.{◌∷◌, [], ◌++◌, ◌∙◌, ap}
use Rattle.std.specs.Prelude.{codes}
use Rattle.std.proofs.lemmas.Result.{on_ok_weaker}
use Rattle.cert_text.specs.inner.Written.{prices_text}
use Rattle.cert_text.proofs.WrittenLines.{three, leaf_text}
use Rattle.cert_text.proofs.spell.push_leaf.Goals as goal

pub returns : goal.returns
returns c =
    on_ok_weaker c.push_bytes-2.result
    (λ e. three c.args.out.now.items c.push_bytes.new.out.items c.push_prices.new.out.items c.push_bytes-2.new.out.items (codes "leaf") (prices_text c.args.prices.now) (10 ∷ []) c.in_ok-push_bytes.ensures.ok c.in_ok-push_prices.ensures e ∙ ap (λ t. c.args.out.now.items ++ t) (leaf_text c.args.prices.now))
    c.push_bytes-2.ensures.ok
