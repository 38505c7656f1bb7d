use Rattle.std.proofs.Common.{subst, Err}
use Rattle.arc_program.specs.declared.loading.LoadFault.{LoadFault}
use Rattle.arc_program.specs.inner.Loading.{Loads}
use Rattle.arc_program.proofs.Extracted.{unread_works, long_works, starved_failed, starved_long, starved_reading}
use Rattle.arc_program.proofs.commands.extract.load_fault.Goals as goal

pub returns-in-Ok : goal.returns-in-Ok
returns-in-Ok c = λ name mvp I before after small loads.
    unread_works name c.args.solution.now mvp I before after _ c.in-Ok.ensures.ok (subst (λ (f : LoadFault). Loads c.args.solution.now (Err f) before after) c.in-Failed.is loads)

pub returns-in-Err : goal.returns-in-Err
returns-in-Err c = λ name mvp I before after small loads.
    starved_failed name c.args.solution.now mvp I before after (subst (λ (f : LoadFault). Loads c.args.solution.now (Err f) before after) c.in-Failed.is loads)

pub returns-in-Ok-length_line : goal.returns-in-Ok-length_line
returns-in-Ok-length_line c = λ name mvp I before after small loads.
    long_works name c.args.solution.now mvp I before after small c.in-Ok-length_line.line c.refused.result c.in-Ok-length_line.ensures c.refused.ensures (subst (λ (f : LoadFault). Loads c.args.solution.now (Err f) before after) c.in-Long.is loads)

pub returns-in-Err-length_line : goal.returns-in-Err-length_line
returns-in-Err-length_line c = λ name mvp I before after small loads.
    starved_long name c.args.solution.now mvp I before after (subst (λ (f : LoadFault). Loads c.args.solution.now (Err f) before after) c.in-Long.is loads)

pub returns-in-Memory : goal.returns-in-Memory
returns-in-Memory c = λ name mvp I before after small loads.
    starved_reading name c.args.solution.now mvp I before after (subst (λ (f : LoadFault). Loads c.args.solution.now (Err f) before after) c.in-Memory.is loads)
