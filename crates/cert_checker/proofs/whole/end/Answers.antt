use Rattle.std.proofs.Common.{[], ◌∷◌, ◌++◌}
use Rattle.cert_text.specs.declared.lines.CertLine.TheVariants as cert
use Rattle.cert_checker.specs.Faults.{refusal_of}
use Rattle.cert_checker.proofs.TakenLines.{taken_more, taken_fault, whole_ok, whole_err, as_fault}
use Rattle.cert_checker.proofs.whole.end.Goals as goal

pub returns-in-Err-clause-err : goal.returns-in-Err-clause-err
returns-in-Err-clause-err c = λ I g before has. as_fault I g (before ++ cert.End ∷ []) (refusal_of c.in-Err.fault) (taken_fault I g before c.args.checker has cert.End c.step_end.new.self c.in-Err.fault c.in-Err.ensures [])

pub returns-clause-ok : goal.returns-clause-ok
returns-clause-ok c = λ I g before has. whole_ok I g (before ++ cert.End ∷ []) c.step_end.new.self (taken_more I g before c.args.checker has cert.End c.step_end.new.self c.in-Ok.ensures) c.finish.result c.finish.ensures.finished

pub returns-clause-err : goal.returns-clause-err
returns-clause-err c = λ I g before has. whole_err I g (before ++ cert.End ∷ []) c.step_end.new.self (taken_more I g before c.args.checker has cert.End c.step_end.new.self c.in-Ok.ensures) c.finish.result c.finish.ensures.finished
