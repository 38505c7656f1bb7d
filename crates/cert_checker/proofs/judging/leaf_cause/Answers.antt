use Rattle.std.proofs.Common.{rules}
use Rattle.cert_text.specs.declared.lines.TreeLine.TheVariants.{Leaf}
use Rattle.cert_laws.specs.Shown.{Closes}
use Rattle.leaf_check.specs.declared.leaves.LeafFault.TheVariants as leaf
use Rattle.leaf_check.specs.Leaves.{IsLeafFault}
use Rattle.cert_checker.specs.inner.Judging.{KeepsPlace}
use Rattle.cert_checker.proofs.FirstCauses.{at_no_item, at_no_arc, at_gain, at_weak, none}
use Rattle.cert_checker.proofs.judging.leaf_cause.Goals as goal

pub returns-then-not-items_exist-clause-first : goal.returns-then-not-items_exist-clause-first
returns-then-not-items_exist-clause-first c = λ goal. at_no_item (KeepsPlace c.args.instance.now c.args.graph.now c.args.ranges.now goal c.args.claim.now (Leaf c.args.prices.now)) c.args.graph.now tt tt tt (λ h. search rules)

pub returns-then-not-prices_exist-clause-first : goal.returns-then-not-prices_exist-clause-first
returns-then-not-prices_exist-clause-first c = λ goal. at_no_arc (KeepsPlace c.args.instance.now c.args.graph.now c.args.ranges.now goal c.args.claim.now (Leaf c.args.prices.now)) c.args.graph.now tt tt tt (search rules) (λ h. search rules)

pub returns-in-None-clause-first : goal.returns-in-None-clause-first
returns-in-None-clause-first c =
    let closes : Closes c.args.instance.now c.args.graph.now c.args.prices.now c.args.ranges.now c.args.claim.now = search rules in
    λ goal. none (KeepsPlace c.args.instance.now c.args.graph.now c.args.ranges.now goal c.args.claim.now (Leaf c.args.prices.now)) c.args.graph.now tt tt tt (search rules) (search rules) tt tt tt closes.gains closes.strong

pub returns-in-Some-Gain-clause-first : goal.returns-in-Some-Gain-clause-first
returns-in-Some-Gain-clause-first c =
    let fault : IsLeafFault c.args.instance.now c.args.graph.now c.args.prices.now c.args.ranges.now c.args.claim.now (leaf.Gain c.in-Some-Gain.t) = search rules in
    λ goal. at_gain (KeepsPlace c.args.instance.now c.args.graph.now c.args.ranges.now goal c.args.claim.now (Leaf c.args.prices.now)) c.args.graph.now c.in-Some-Gain.t fault.0 tt tt tt (search rules) (search rules) tt tt tt fault.2 fault.1

pub returns-in-Some-Weak-clause-first : goal.returns-in-Some-Weak-clause-first
returns-in-Some-Weak-clause-first c =
    let fault : IsLeafFault c.args.instance.now c.args.graph.now c.args.prices.now c.args.ranges.now c.args.claim.now leaf.Weak = search rules in
    λ goal. at_weak (KeepsPlace c.args.instance.now c.args.graph.now c.args.ranges.now goal c.args.claim.now (Leaf c.args.prices.now)) c.args.graph.now tt tt tt (search rules) (search rules) tt tt tt fault.0 fault.1
