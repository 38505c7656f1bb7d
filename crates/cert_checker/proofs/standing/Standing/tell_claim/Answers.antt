use Rattle.std.proofs.Common.{rules}
use Rattle.std.specs.Prelude.{IsTrue}
use Rattle.cert_text.specs.declared.lines.CertLine.TheVariants as cert
use Rattle.cert_checker.proofs.Verdicts.{told_after_end, told_out_of_place}
use Rattle.cert_checker.proofs.standing.Standing.tell_claim.Goals as goal

pub returns-then-self : goal.returns-then-self
returns-then-self c = λ I g. told_after_end _ _ c.self.view_is I g (cert.Claim c.args.claim c.args.goal) c.if-self.true

pub returns-then-not-is_claim_place : goal.returns-then-not-is_claim_place
returns-then-not-is_claim_place c = λ I g. told_out_of_place _ _ c.self.view_is I g c.if-self.false (cert.Claim c.args.claim c.args.goal) (λ there. let t : IsTrue c.is_claim_place.result = c.is_claim_place.ensures.1 there in absurd (search rules))
