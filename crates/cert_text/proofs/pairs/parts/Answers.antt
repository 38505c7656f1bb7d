use Rattle.std.proofs.Common.{◌≡◌, ◌++◌, ◌∷◌, []}
use Rattle.std.proofs.lemmas.Result.{err_from_is_err_and}
use Rattle.cert_text.specs.inner.Fields.{part_at, parts_at}
use Rattle.cert_text.proofs.InARow.{goes_on, ends, is_done}
use Rattle.cert_text.proofs.pairs.parts.Goals as goal

pub returns-in_err-next : goal.returns-in_err-next
returns-in_err-next c =
    let p = err_from_is_err_and c.from_residual.result c.from_residual.ensures.1 in
    rw (p.1, p.2) (ends part_at (λ x. x.arc) c.in_err-next.field-0.0 c.loop.parts c.args.count c.loop.counter c.loop.last c.loop.fields c.part.new.fields (parts_at c.args.count 0 c.args.fields.now) c.loop-test.true c.in_err-next.ensures c.loop.invariant)

pub loop-preserved : goal.loop-preserved
loop-preserved c =
    let e : c.push.new.self ≡ c.loop.parts ++ c.in_ok-next.next ∷ [] = c.in_ok-push.ensures.ok in
    rw e (goes_on part_at (λ x. x.arc) c.loop.parts c.args.count c.loop.counter c.loop.last c.loop.fields c.in_ok-next.next c.part.new.fields (parts_at c.args.count 0 c.args.fields.now) c.loop-test.true c.in_ok-next.ensures c.loop.invariant)

pub returns : goal.returns
returns c = is_done part_at (λ x. x.arc) c.loop.parts c.args.count c.loop.counter c.loop.last c.loop.fields (parts_at c.args.count 0 c.args.fields.now) c.loop-test.false c.loop.invariant
