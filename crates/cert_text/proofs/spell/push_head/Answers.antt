use Rattle.std.proofs.Common.{◌∷◌, []}
use Rattle.std.specs.Prelude.{codes, decimal}
use Rattle.std.proofs.lemmas.Result.{on_ok_weaker}
use Rattle.cert_text.proofs.WrittenLines.{three}
use Rattle.cert_text.proofs.spell.push_head.Goals as goal

pub returns : goal.returns
returns c =
    on_ok_weaker c.push_bytes-2.result
    (λ e. three c.args.out.now.items c.push_bytes.new.out.items c.push_small.new.out.items c.push_bytes-2.new.out.items (codes "vpack-certificate") (32 ∷ decimal c.args.version) (10 ∷ []) c.in_ok-push_bytes.ensures.ok c.in_ok-push_small.ensures e)
    c.push_bytes-2.ensures.ok
