-- Each kind of line has its own causes.
use Rattle.std.proofs.Common.{sym, subst}
use Rattle.cert_text.specs.declared.lines.TreeLine.{TreeLine}
use Rattle.cert_checker.specs.inner.Judging.{KeepsPlace, IsFirstCause}
use Rattle.cert_checker.proofs.judging.place_cause.Goals as goal

pub returns-in-Split-clause-first : goal.returns-in-Split-clause-first
returns-in-Split-clause-first c = subst (λ (line : TreeLine). IsFirstCause (KeepsPlace c.args.instance.now c.args.graph.now c.args.ranges.now c.args.goal c.args.claim.now line) c.args.graph.now c.split_cause.result) (sym c.in-Split.is) (c.split_cause.ensures c.args.instance.now c.args.goal c.args.claim.now)

pub returns-in-Needed-clause-first : goal.returns-in-Needed-clause-first
returns-in-Needed-clause-first c = subst (λ (line : TreeLine). IsFirstCause (KeepsPlace c.args.instance.now c.args.graph.now c.args.ranges.now c.args.goal c.args.claim.now line) c.args.graph.now c.need_cause.result) (sym c.in-Needed.is) (c.need_cause.ensures.first c.args.claim.now)

pub returns-in-Leaf-clause-first : goal.returns-in-Leaf-clause-first
returns-in-Leaf-clause-first c = subst (λ (line : TreeLine). IsFirstCause (KeepsPlace c.args.instance.now c.args.graph.now c.args.ranges.now c.args.goal c.args.claim.now line) c.args.graph.now c.leaf_cause.result) (sym c.in-Leaf.is) (c.leaf_cause.ensures.first c.args.goal)

pub returns-in-Step-clause-first : goal.returns-in-Step-clause-first
returns-in-Step-clause-first c = subst (λ (line : TreeLine). IsFirstCause (KeepsPlace c.args.instance.now c.args.graph.now c.args.ranges.now c.args.goal c.args.claim.now line) c.args.graph.now c.step_cause.result) (sym c.in-Step.is) (c.step_cause.ensures c.args.graph.now c.args.ranges.now c.args.goal)
