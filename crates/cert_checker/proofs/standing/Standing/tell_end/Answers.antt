use Rattle.std.proofs.Common.{rules}
use Rattle.cert_text.specs.declared.lines.CertLine.TheVariants as cert
use Rattle.cert_checker.proofs.Verdicts.{told_after_end, told_out_of_place, told_unfinished, some_open}
use Rattle.cert_checker.proofs.standing.Standing.tell_end.Goals as goal

pub returns-then-self : goal.returns-then-self
returns-then-self c = λ I g. told_after_end _ _ c.self.view_is I g cert.End c.if-self.true

pub returns-then-self-lt2 : goal.returns-then-self-lt2
returns-then-self-lt2 c = λ I g. told_out_of_place _ _ c.self.view_is I g c.if-self.false cert.End (λ there. search rules)

pub returns-then-is_open : goal.returns-then-is_open
returns-then-is_open c = λ I g. told_unfinished _ _ c.self.view_is I g c.if-self.false (search rules) (some_open c.self.inside.walk.boxes (c.is_open.ensures.0 (search rules)))
