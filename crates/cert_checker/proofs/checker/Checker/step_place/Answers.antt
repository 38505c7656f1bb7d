use Rattle.std.proofs.Common.{subst}
use Rattle.cert_text.specs.declared.lines.CertLine.TheVariants as cert
use Rattle.cert_checker.specs.Checkers.{CheckerValue, IsStepped}
use Rattle.cert_checker.specs.inner.Standing.{IsTold}
use Rattle.cert_checker.proofs.Settled.{told_ready, roomed_ready, settled}
use Rattle.cert_checker.proofs.checker.Checker.step_place.Goals as goal

pub returns : goal.returns
returns c =
    let told : IsTold c.self.inside.instance.now c.self.inside.graph.now c.self.inside.standing (cert.Tree c.args.place.now) c.in_ok-verdict.verdict c.tell_place.new.self = c.in_ok-verdict.ensures.told in
    subst (λ (s : CheckerValue). IsStepped s (cert.Tree c.args.place.now) c.settle.result c.settle.new.self) c.self.view_is
    (settled c.self.inside.instance.now c.self.inside.graph.now c.self.inside.refusal c.in_default.is c.self.inside.standing c.tell_place.new.self (cert.Tree c.args.place.now) c.in_ok-verdict.verdict told c.settle.result c.settle.new.self c.settle.ensures)

pub invariant_of-self-2 : goal.invariant_of-self-2
invariant_of-self-2 c =
    let told : IsTold c.self.inside.instance.now c.self.inside.graph.now c.self.inside.standing (cert.Tree c.args.place.now) c.in_ok-verdict.verdict c.tell_place.new.self = c.in_ok-verdict.ensures.told in
    told_ready c.self.inside.instance.now c.self.inside.graph.now c.self.inside.standing (cert.Tree c.args.place.now) c.in_ok-verdict.verdict c.tell_place.new.self c.tell_place.new.scratch c.tell_place.new.room told
    (roomed_ready c.self.inside.instance.now c.self.inside.graph.now c.self.inside.standing c.self.inside.scratch c.tell_place.new.scratch c.self.inside.room c.tell_place.new.room c.tell_place.ensures.scratch c.tell_place.ensures.room c.self.invariant)
