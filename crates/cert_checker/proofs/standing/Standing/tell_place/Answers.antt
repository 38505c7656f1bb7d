-- An accepted place of the tree finds a box that is open, and splits it.
use Rattle.std.proofs.Common.{subst}
use Rattle.std.specs.Prelude.{Option}
use Rattle.cert_text.specs.declared.lines.CertLine.TheVariants as cert
use Rattle.cert_laws.specs.declared.causes.Cause.{Cause}
use Rattle.cert_laws.specs.Rules.{IsAccepted}
use Rattle.cert_checker.specs.inner.Judging.{IsVerdict}
use Rattle.cert_checker.proofs.Verdicts.{box_open, keeps_split}
use Rattle.cert_checker.proofs.standing.Standing.tell_place.Goals as goal

pub pass-requires-clause-some : goal.pass-requires-clause-some
pass-requires-clause-some c =
    let accepted : IsAccepted c.args.instance.now c.args.graph.now c.args.self.now.progress (cert.Tree c.args.line.now) = subst (λ (v : Option Cause). IsVerdict c.args.instance.now c.args.graph.now c.args.self.now.progress (cert.Tree c.args.line.now) v) c.in_default.is c.place_cause.ensures.verdict in
    box_open c.args.instance.now c.args.graph.now c.args.self.now.progress c.args.line.now accepted

pub pass-requires-clause-genuine : goal.pass-requires-clause-genuine
pass-requires-clause-genuine c =
    let accepted : IsAccepted c.args.instance.now c.args.graph.now c.args.self.now.progress (cert.Tree c.args.line.now) = subst (λ (v : Option Cause). IsVerdict c.args.instance.now c.args.graph.now c.args.self.now.progress (cert.Tree c.args.line.now) v) c.in_default.is c.place_cause.ensures.verdict in
    keeps_split c.args.instance.now c.args.graph.now c.args.self.now.progress c.args.line.now accepted
