use Rattle.std.proofs.Common.{◌≡◌, rules}
use Rattle.cert_stream.specs.declared.stage.Stage.TheVariants.{Certain}
use Rattle.cert_stream.proofs.Fed.{still_certain}
use Rattle.cert_stream.proofs.judge.Judge.take.Goals as goal

pub returns-in-Certain : goal.returns-in-Certain
returns-in-Certain g c = λ I h bytes fed.
    let stage : c.args.self.now.stage ≡ Certain c.in-Certain.field-0 = search rules in
    still_certain I h bytes c.args.self.now c.in-Certain.field-0 stage fed c.args.piece.now
