use Rattle.std.proofs.Common.{◌≡◌, rules}
use Rattle.cert_stream.specs.declared.stage.Stage.TheVariants.{Open, Certain}
use Rattle.cert_stream.proofs.Fed.{open_read, still_certain}
use Rattle.cert_stream.proofs.judge.Judge.pass_limit.Goals as goal

pub returns-in-Open : goal.returns-in-Open
returns-in-Open g c = λ I h bytes more fed full some.
    let stage : c.args.self.now.stage ≡ Open = search rules in
    let is = open_read I h bytes c.args.self.now stage fed in
    c.stop_at_limit.ensures I h bytes more is.0 is.1 full some

pub returns-in-Certain : goal.returns-in-Certain
returns-in-Certain g c = λ I h bytes more fed full some.
    let stage : c.args.self.now.stage ≡ Certain c.in-Certain.field-0 = search rules in
    still_certain I h bytes c.args.self.now c.in-Certain.field-0 stage fed more
