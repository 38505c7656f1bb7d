use Rattle.std.proofs.Common.{length, reverse, sym, ap, ◌∙◌}
use Rattle.cert_checker.proofs.WalkSteps.{root_size}
use Rattle.cert_checker.specs.Trails.{WalkValue}
use Rattle.cert_checker.proofs.trails.Walk.first.Goals as goal

pub returns-clause-size : goal.returns-clause-size
returns-clause-size c =
    sym (root_size c.self.inside.first (reverse c.self.inside.trail.items)) ∙ ap (λ (w : WalkValue). length w.root) c.self.view_is
