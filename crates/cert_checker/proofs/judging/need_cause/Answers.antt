use Rattle.std.proofs.Common.{rules}
use Rattle.cert_text.specs.declared.lines.TreeLine.TheVariants.{Needed}
use Rattle.cert_checker.specs.inner.Judging.{KeepsPlace}
use Rattle.cert_checker.proofs.FirstCauses.{at_no_arc, at_not_split, at_not_needed, none}
use Rattle.cert_checker.proofs.judging.need_cause.Goals as goal

pub returns-then-not-names_arcs-clause-first : goal.returns-then-not-names_arcs-clause-first
returns-then-not-names_arcs-clause-first c = λ claim. at_no_arc (KeepsPlace c.args.instance.now c.args.graph.now c.args.ranges.now c.args.goal claim (Needed c.args.arc c.args.cut c.args.need.now)) c.args.graph.now tt tt tt tt (λ h. search rules)

pub returns-then-not-is_genuine-clause-first : goal.returns-then-not-is_genuine-clause-first
returns-then-not-is_genuine-clause-first c = λ claim. at_not_split (KeepsPlace c.args.instance.now c.args.graph.now c.args.ranges.now c.args.goal claim (Needed c.args.arc c.args.cut c.args.need.now)) c.args.graph.now tt tt tt tt (search rules) (λ h. search rules)

pub returns-then-not-check_need-clause-first : goal.returns-then-not-check_need-clause-first
returns-then-not-check_need-clause-first c = λ claim. at_not_needed (KeepsPlace c.args.instance.now c.args.graph.now c.args.ranges.now c.args.goal claim (Needed c.args.arc c.args.cut c.args.need.now)) c.args.graph.now tt tt tt tt (search rules) (search rules) (λ h. search rules)

pub returns-clause-first : goal.returns-clause-first
returns-clause-first c = λ claim. none (KeepsPlace c.args.instance.now c.args.graph.now c.args.ranges.now c.args.goal claim (Needed c.args.arc c.args.cut c.args.need.now)) c.args.graph.now tt tt tt tt (search rules) (search rules) (search rules) tt (λ t among. tt) tt
