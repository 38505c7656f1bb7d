use Rattle.std.proofs.Common.{◌≡◌, rules}
use Rattle.cert_stream.specs.declared.stage.Stage.TheVariants.{Open, Certain}
use Rattle.cert_stream.proofs.Fed.{is_verdict, open_read}
use Rattle.cert_stream.proofs.judge.Judge.finish.Goals as goal

pub returns-in-Open : goal.returns-in-Open
returns-in-Open g c = λ I h bytes fed.
    let stage : c.args.self.stage ≡ Open = search rules in
    let is = open_read I h bytes c.args.self stage fed in
    c.close.ensures I h bytes is.0 is.1

pub returns-in-Certain : goal.returns-in-Certain
returns-in-Certain g c = λ I h bytes fed.
    let stage : c.args.self.stage ≡ Certain c.in-Certain.verdict = search rules in
    is_verdict I h bytes c.args.self c.in-Certain.verdict stage fed
