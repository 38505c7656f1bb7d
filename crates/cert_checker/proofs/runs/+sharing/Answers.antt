use Rattle.std.proofs.Common.{◌≡◌, ◌++◌, List, map, take, drop, ap, ◌∙◌, subst, rules}
use Rattle.std.specs.Prelude.{IfOk}
use Rattle.cert_text.specs.declared.lines.CertLine.{CertLine}
use Rattle.cert_checker.specs.inner.Runs.{AreTold, behind}
use Rattle.cert_checker.proofs.ToldLines.{both_parts, told_from}
use Rattle.cert_checker.proofs.runs.+sharing.Goals as goal

pub hand_out-returns : goal.hand_out-returns
hand_out-returns g t c =
    let I = c.args.instance.now in
    let graph = c.args.graph.now in
    let first = c.split_at.result.0.now in
    let last = c.split_at.result.1.now in
    let there : c.in-Ok-Some.ahead ≡ behind c.args.standing.now (map g.T.Line.told first) = search rules in
    let front : first ≡ take c.cut.result c.args.lines.now = c.split_at.ensures.front in
    let back : last ≡ drop c.cut.result c.args.lines.now = c.split_at.ensures.back in
    let all : map g.T.Line.told first ++ map g.T.Line.told last ≡ map g.T.Line.told c.args.lines.now =
    ap (λ xs. map g.T.Line.told xs ++ map g.T.Line.told last) front
    ∙ (ap (λ xs. map g.T.Line.told (take c.cut.result c.args.lines.now) ++ map g.T.Line.told xs) back ∙ both_parts g.T.Line.told c.args.lines.now c.cut.result) in
    let left : IfOk c.join-left.result.0 (λ judged. AreTold I graph c.args.standing.now (map g.T.Line.told first) judged.refusal judged.standing) = c.join-left.ensures.first in
    let right : IfOk c.join-left.result.1 (λ judged. AreTold I graph c.in-Ok-Some.ahead (map g.T.Line.told last) judged.refusal judged.standing) = c.join-left.ensures.second in
    subst (λ (ls : List CertLine). IfOk c.joined.result (λ judged. AreTold I graph c.args.standing.now ls judged.refusal judged.standing)) all
    (c.joined.ensures I graph c.args.standing.now (map g.T.Line.told first) (map g.T.Line.told last) left
    (told_from I graph c.in-Ok-Some.ahead (behind c.args.standing.now (map g.T.Line.told first)) there (map g.T.Line.told last) c.join-left.result.1 right))
