use Rattle.std.proofs.Common.{refl, rules}
use Rattle.arc_compile.specs.Graphs.{IsTooLarge}
use Rattle.arc_program.proofs.Certified.{judged_works, stopped_works}
use Rattle.arc_program.proofs.commands.check.report.Goals as goal

pub returns-in-Err-TooManyArcs-clause-works : goal.returns-in-Err-TooManyArcs-clause-works
returns-in-Err-TooManyArcs-clause-works g c =
    let large : IsTooLarge c.args.instance.now c.in-Err-TooManyArcs.t = c.in-Err-TooManyArcs.ensures.large _ c.in-Err-TooManyArcs.field-0-is in
    λ name mvp. (refl, search (large, rules), refl)

pub returns-in-Ok-judge_text-clause-works : goal.returns-in-Ok-judge_text-clause-works
returns-in-Ok-judge_text-clause-works g c = λ name mvp.
    judged_works name c.args.certificate.now mvp c.args.workers c.args.instance.now c.in-Ok.compiled.graph (c.in-Ok.compiled.sizes, c.in-Ok.ensures.compiled) c.in-Ok.ensures.small _ _ c.in-Ok-judge_text.verdict c.told.result c.in-Ok-judge_text.ensures.judged (c.in-Ok-judge_text.ensures.so c.in-Ok.ensures.faithful) c.told.ensures

pub returns-clause-works : goal.returns-clause-works
returns-clause-works g c = λ name mvp.
    stopped_works name c.args.certificate.now mvp c.args.workers c.args.instance.now c.in-Ok.compiled.graph (c.in-Ok.compiled.sizes, c.in-Ok.ensures.compiled) c.in-Ok.ensures.small _ _ c.in-Err.fault c.unjudged.result c.in-Err.ensures.judged c.unjudged.ensures
