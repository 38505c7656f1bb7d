use Rattle.std.proofs.Common.{◌∷◌, [], ◌++◌, ◌∙◌, ap}
use Rattle.std.specs.Prelude.{codes, decimal}
use Rattle.std.proofs.lemmas.Result.{on_ok_weaker}
use Rattle.cert_text.specs.inner.Written.{need_text}
use Rattle.cert_text.proofs.WrittenLines.{five, needed_text}
use Rattle.cert_text.proofs.spell.push_needed.Goals as goal

pub returns : goal.returns
returns c =
    on_ok_weaker c.push_bytes-2.result
    (λ e. five c.args.out.now.items c.push_bytes.new.out.items c.push_small.new.out.items c.push_small-2.new.out.items c.push_need.new.out.items c.push_bytes-2.new.out.items (codes "need") (32 ∷ decimal c.args.arc) (32 ∷ decimal c.args.k) (need_text c.args.need.now) (10 ∷ []) c.in_ok-push_bytes.ensures.ok c.in_ok-push_small.ensures c.in_ok-push_small-2.ensures c.in_ok-push_need.ensures e ∙ ap (λ t. c.args.out.now.items ++ t) (needed_text c.args.arc c.args.k c.args.need.now))
    c.push_bytes-2.ensures.ok
