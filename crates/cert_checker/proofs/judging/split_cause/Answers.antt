use Rattle.std.proofs.Common.{rules}
use Rattle.cert_text.specs.declared.lines.TreeLine.TheVariants.{Split}
use Rattle.cert_checker.specs.inner.Judging.{KeepsPlace}
use Rattle.cert_checker.proofs.FirstCauses.{at_no_arc, at_not_split, none}
use Rattle.cert_checker.proofs.judging.split_cause.Goals as goal

pub returns-then-arc-arc_count : goal.returns-then-arc-arc_count
returns-then-arc-arc_count c = λ I goal claim. at_no_arc (KeepsPlace I c.args.graph.now c.args.ranges.now goal claim (Split c.args.arc c.args.cut)) c.args.graph.now tt tt tt tt (λ h. search rules)

pub returns-then-not-is_genuine : goal.returns-then-not-is_genuine
returns-then-not-is_genuine c = λ I goal claim. at_not_split (KeepsPlace I c.args.graph.now c.args.ranges.now goal claim (Split c.args.arc c.args.cut)) c.args.graph.now tt tt tt tt (search rules) (λ h. search rules)

pub returns : goal.returns
returns c = λ I goal claim. none (KeepsPlace I c.args.graph.now c.args.ranges.now goal claim (Split c.args.arc c.args.cut)) c.args.graph.now tt tt tt tt (search rules) (search rules) tt tt (λ t among. tt) tt
