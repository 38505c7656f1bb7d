use Rattle.std.proofs.Common.{◌<◌, length, subst, rules}
use Rattle.std.specs.Prelude.{IsTrue}
use Rattle.cert_text.specs.declared.lines.CertLine.TheVariants as cert
use Rattle.cert_laws.specs.Rules.{Box}
use Rattle.cert_checker.specs.inner.Judging.{IsFirstCause, KeepsPlace}
use Rattle.cert_checker.proofs.Verdicts.{verdict_after_end, verdict_out_of_place, verdict_extra, verdict_place}
use Rattle.cert_checker.proofs.standing.Standing.place_cause.Goals as goal

pub returns-then-self-clause-verdict : goal.returns-then-self-clause-verdict
returns-then-self-clause-verdict c = verdict_after_end _ _ c.self.view_is c.args.instance.now c.args.graph.now (cert.Tree c.args.line.now) c.if-self.true

pub returns-then-not-is_tree_place-clause-verdict : goal.returns-then-not-is_tree_place-clause-verdict
returns-then-not-is_tree_place-clause-verdict c = verdict_out_of_place _ _ c.self.view_is c.args.instance.now c.args.graph.now c.if-self.false (cert.Tree c.args.line.now) (λ there. let t : IsTrue c.is_tree_place.result = c.is_tree_place.ensures.1 there in absurd (search rules))

pub returns-then-not-is_open-clause-verdict : goal.returns-then-not-is_open-clause-verdict
returns-then-not-is_open-clause-verdict c = verdict_extra _ _ c.self.view_is c.args.instance.now c.args.graph.now c.if-self.false c.args.line.now (c.is_tree_place.ensures.0 (search rules)) (λ opened. let t : IsTrue c.is_open.result = c.is_open.ensures.1 opened in absurd (search rules))

pub place_cause-requires-clause-line : goal.place_cause-requires-clause-line
place_cause-requires-clause-line c = (c.self.inside.version, (c.is_tree_place.ensures.0 (search rules)).1)

pub returns-clause-verdict : goal.returns-clause-verdict
returns-clause-verdict c =
    let opened : 0 < length c.self.inside.walk.boxes = c.is_open.ensures.0 (search rules) in
    verdict_place _ _ c.self.view_is c.args.instance.now c.args.graph.now c.if-self.false c.args.line.now (c.is_tree_place.ensures.0 (search rules)) opened c.place_cause.result
    (subst (λ (x : Box). IsFirstCause (KeepsPlace c.args.instance.now c.args.graph.now x c.self.inside.goal c.self.inside.claim c.args.line.now) c.args.graph.now c.place_cause.result) c.first-first.ensures.value c.place_cause.ensures.first)
