use Rattle.std.proofs.Common.{false, refl, rules}
use Rattle.arc_compile.specs.Graphs.{IsTooLarge}
use Rattle.arc_program.proofs.JointExported.{exported_works}
use Rattle.arc_program.proofs.commands.export.types_report.Goals as goal

pub returns-in-Err-TooManyArcs : goal.returns-in-Err-TooManyArcs
returns-in-Err-TooManyArcs g c =
    let large : IsTooLarge c.args.instance.now c.in-Err-TooManyArcs.t = c.in-Err-TooManyArcs.ensures.large _ c.in-Err-TooManyArcs.field-0-is in
    λ name mvp shelf. (refl, search (large, rules), refl)

pub returns-in-Ok-model_report : goal.returns-in-Ok-model_report
returns-in-Ok-model_report g c =
    let told = c.in-Ok-model_report.ensures in
    λ name mvp shelf. exported_works name mvp false c.args.instance.now shelf c.in-Ok-model_report.report told.reported told.text told.unmade told.alone
