use Rattle.std.proofs.Common.{[], ◌∷◌}
use Rattle.cert_text.specs.declared.lines.CertLine.TheVariants as cert
use Rattle.cert_checker.specs.inner.Taken.{HasTaken}
use Rattle.cert_checker.proofs.TakenLines.{taken_more, taken_fault}
use Rattle.cert_checker.proofs.whole.begin.Goals as goal

pub returns-in-Err-clause-err : goal.returns-in-Err-clause-err
returns-in-Err-clause-err c = λ I g has after. taken_fault I g [] c.args.checker.now has (cert.Head c.args.certificate.now.version) c.step_head.new.self c.in-Err.fault c.in-Err.ensures ((cert.Claim c.args.certificate.now.claim c.args.certificate.now.goal) ∷ after)

pub returns-in-Ok-step_claim-clause-ok : goal.returns-in-Ok-step_claim-clause-ok
returns-in-Ok-step_claim-clause-ok c = λ I g has.
    let one : HasTaken I g ((cert.Head c.args.certificate.now.version) ∷ []) c.step_head.new.self = taken_more I g [] c.args.checker.now has (cert.Head c.args.certificate.now.version) c.step_head.new.self c.in-Ok.ensures in
    taken_more I g ((cert.Head c.args.certificate.now.version) ∷ []) c.step_head.new.self one (cert.Claim c.args.certificate.now.claim c.args.certificate.now.goal) c.step_claim.new.self c.in-Ok-step_claim.ensures

pub returns-in-Err-step_claim-clause-err : goal.returns-in-Err-step_claim-clause-err
returns-in-Err-step_claim-clause-err c = λ I g has.
    let one : HasTaken I g ((cert.Head c.args.certificate.now.version) ∷ []) c.step_head.new.self = taken_more I g [] c.args.checker.now has (cert.Head c.args.certificate.now.version) c.step_head.new.self c.in-Ok.ensures in
    λ after. taken_fault I g ((cert.Head c.args.certificate.now.version) ∷ []) c.step_head.new.self one (cert.Claim c.args.certificate.now.claim c.args.certificate.now.goal) c.step_claim.new.self c.in-Err-step_claim.fault c.in-Err-step_claim.ensures after
