use Rattle.std.proofs.Common.{refl, rules}
use Rattle.std.specs.Prelude.{IsTrue}
use Rattle.cert_text.specs.declared.lines.CertLine.TheVariants as cert
use Rattle.cert_checker.proofs.Verdicts.{told_after_end, told_out_of_place, told_head}
use Rattle.cert_checker.proofs.standing.Standing.tell_head.Goals as goal

pub returns-then-self : goal.returns-then-self
returns-then-self c = λ I g. told_after_end _ _ c.self.view_is I g (cert.Head c.args.version) c.if-self.true

pub returns-then-not-is_head_place : goal.returns-then-not-is_head_place
returns-then-not-is_head_place c = λ I g. told_out_of_place _ _ c.self.view_is I g c.if-self.false (cert.Head c.args.version) (λ there. let t : IsTrue c.is_head_place.result = (c.is_head_place.ensures c.self.inside.version).1 there in absurd (search rules))

pub returns : goal.returns
returns c = λ I g. told_head _ _ c.self.view_is I g c.if-self.false c.args.version _ ((c.is_head_place.ensures c.self.inside.version).0 (search rules)) refl
