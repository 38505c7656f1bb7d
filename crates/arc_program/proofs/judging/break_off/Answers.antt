use Rattle.std.proofs.Common.{Option, MatchOption, subst}
use Rattle.cert_stream.specs.declared.verdict.Verdict.{Verdict}
use Rattle.cert_stream.specs.Verdicts.{IsCertain, IsSound}
use Rattle.arc_program.proofs.judging.break_off.Goals as goal

pub returns-in-Ok-Some : goal.returns-in-Ok-Some
returns-in-Ok-Some g c = λ I gr bytes fed.
    subst (λ (o : Option Verdict). MatchOption o (IsSound I gr bytes) (λ v. IsCertain I gr bytes v)) c.in-Ok-Some.field-0-is (c.in-Ok-Some.ensures.known I gr bytes fed)
