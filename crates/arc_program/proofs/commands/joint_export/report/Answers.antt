use Rattle.std.proofs.Common.{true, refl}
use Rattle.arc_program.proofs.JointExported.{exported_works}
use Rattle.arc_program.proofs.commands.joint_export.report.Goals as goal

pub returns-in-Err-TooManyArcs : goal.returns-in-Err-TooManyArcs
returns-in-Err-TooManyArcs c = λ name mvp shelf. (refl, c.in-Err-TooManyArcs.ensures.large c.in-Err-TooManyArcs.field-0-is, refl)

pub returns-in-Ok-model_report : goal.returns-in-Ok-model_report
returns-in-Ok-model_report c =
    let told = c.in-Ok-model_report.ensures in
    λ name mvp shelf. exported_works name mvp true c.args.instance.now shelf c.in-Ok-model_report.report told.reported told.text told.unmade told.alone
