use Rattle.std.proofs.Common.{List, ℕ, refl, rules, subst}
use Rattle.arc_compile.specs.Graphs.{IsTooLarge}
use Rattle.arc_program.specs.inner.Extracting.{Judges}
use Rattle.arc_program.proofs.Extracted.{judged_works}
use Rattle.arc_program.proofs.commands.extract.report.Goals as goal

pub returns-in-Err-TooManyArcs-clause-works : goal.returns-in-Err-TooManyArcs-clause-works
returns-in-Err-TooManyArcs-clause-works g c =
    let large : IsTooLarge c.args.instance.now c.in-Err-TooManyArcs.t = c.in-Err-TooManyArcs.ensures.large _ c.in-Err-TooManyArcs.field-0-is in
    λ name mvp. (refl, search (large, rules), refl)

pub returns-in-Err-clause-works : goal.returns-in-Err-clause-works
returns-in-Err-clause-works g c = λ name mvp. c.load_fault.ensures name mvp c.args.instance.now _ _ c.in-Ok.ensures.small c.in-Err.ensures.loads

pub returns-clause-works : goal.returns-clause-works
returns-clause-works g c = λ name mvp.
    judged_works name c.args.solution.now mvp c.args.instance.now _ _ c.in-Ok.ensures.small c.in-Ok-load.text c.report_on.result c.in-Ok-load.ensures.loads
    (subst (λ (bytes : List ℕ). Judges c.args.instance.now c.args.solution.now bytes c.report_on.result) c.as_slice.ensures c.report_on.ensures)
