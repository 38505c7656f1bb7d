use Rattle.std.proofs.Common.{rules}
use Rattle.cert_text.specs.declared.lines.TreeLine.TheVariants.{Step}
use Rattle.cert_checker.specs.inner.Judging.{KeepsPlace}
use Rattle.cert_checker.proofs.FirstCauses.{at_not_step, at_weak, none}
use Rattle.cert_checker.proofs.judging.step_cause.Goals as goal

pub returns-in-None : goal.returns-in-None
returns-in-None c = λ g box goal. at_not_step (KeepsPlace c.args.instance.now g box goal c.args.claim.now (Step c.args.dim c.args.step)) g tt tt tt tt tt tt tt (λ h. search rules)

pub returns-else-claims_at_most : goal.returns-else-claims_at_most
returns-else-claims_at_most c = λ g box goal. at_weak (KeepsPlace c.args.instance.now g box goal c.args.claim.now (Step c.args.dim c.args.step)) g tt tt tt tt tt tt tt (search rules) (λ t among. tt) (λ h. search rules)

pub returns-then-claims_at_most : goal.returns-then-claims_at_most
returns-then-claims_at_most c = λ g box goal. none (KeepsPlace c.args.instance.now g box goal c.args.claim.now (Step c.args.dim c.args.step)) g tt tt tt tt tt tt tt (search rules) (λ t among. tt) (search rules)
