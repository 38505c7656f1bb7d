use Rattle.std.proofs.Common.{subst}
use Rattle.cert_text.specs.declared.lines.CertLine.TheVariants as cert
use Rattle.cert_checker.specs.Checkers.{CheckerValue, IsStepped}
use Rattle.cert_checker.proofs.Settled.{told_ready, settled}
use Rattle.cert_checker.proofs.checker.Checker.step_claim.Goals as goal

pub invariant_of-self : goal.invariant_of-self
invariant_of-self c =
    told_ready c.self.inside.instance.now c.self.inside.graph.now c.self.inside.standing (cert.Claim c.args.claim c.args.goal) c.tell_claim-verdict.result c.tell_claim-verdict.new.self c.self.inside.scratch c.self.inside.room
    (c.tell_claim-verdict.ensures c.self.inside.instance.now c.self.inside.graph.now) c.self.invariant

pub returns : goal.returns
returns c =
    subst (λ (s : CheckerValue). IsStepped s (cert.Claim c.args.claim c.args.goal) c.settle.result c.settle.new.self) c.self.view_is
    (settled c.self.inside.instance.now c.self.inside.graph.now c.self.inside.refusal c.in_default.is c.self.inside.standing c.tell_claim-verdict.new.self (cert.Claim c.args.claim c.args.goal) c.tell_claim-verdict.result (c.tell_claim-verdict.ensures c.self.inside.instance.now c.self.inside.graph.now) c.settle.result c.settle.new.self c.settle.ensures)
