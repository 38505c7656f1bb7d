-- A turn leaves the way that leads to the high part.
use Rattle.std.proofs.Common.{◌∙◌, rules}
use Rattle.cert_checker.proofs.WalkSteps.{ends_in, turned}
use Rattle.cert_checker.proofs.trails.go_back.Goals as goal

pub returns-then-branch-clause-leads : goal.returns-then-branch-clause-leads
returns-then-branch-clause-leads c =
    (turned c.loop-branch.first c.turn.new.first c.loop-branch.trail.items c.turn.new.trail.items c.in-Some.branch (ends_in c.loop-branch.trail.items c.in-Some.branch (search rules)) c.if-branch.true c.loop-branch.invariant.leads c.turn.ensures.first c.turn.ensures.trail).leads

pub returns-then-branch-clause-root : goal.returns-then-branch-clause-root
returns-then-branch-clause-root c =
    (turned c.loop-branch.first c.turn.new.first c.loop-branch.trail.items c.turn.new.trail.items c.in-Some.branch (ends_in c.loop-branch.trail.items c.in-Some.branch (search rules)) c.if-branch.true c.loop-branch.invariant.leads c.turn.ensures.first c.turn.ensures.trail).root
    ∙ c.loop-branch.invariant.root

pub returns-then-branch-clause-boxes : goal.returns-then-branch-clause-boxes
returns-then-branch-clause-boxes c =
    c.loop-branch.invariant.boxes
    ∙ (turned c.loop-branch.first c.turn.new.first c.loop-branch.trail.items c.turn.new.trail.items c.in-Some.branch (ends_in c.loop-branch.trail.items c.in-Some.branch (search rules)) c.if-branch.true c.loop-branch.invariant.leads c.turn.ensures.first c.turn.ensures.trail).boxes
