use Rattle.std.proofs.Common.{[], ◌∷◌, sym, ap, ◌∙◌}
use Rattle.cert_text.specs.declared.lines.CertLine.TheVariants as cert
use Rattle.cert_checker.specs.declared.lines.LineRef.{LineRef}
use Rattle.cert_checker.specs.inner.LineRefs.{line_of}
use Rattle.cert_checker.specs.inner.Runs.{behind}
use Rattle.cert_checker.proofs.ToldLines.{skipped_if}
use Rattle.cert_checker.proofs.standing.Standing.skip.Goals as goal

pub returns-in-Head : goal.returns-in-Head
returns-in-Head c = λ done.
    skipped_if c.args.self.now c.tell_head.new.self (cert.Head c.in-Head.version) c.tell_head.result c.tell_head.ensures c.is_none.result c.is_none.ensures done
    ∙ ap (λ (l : LineRef). behind c.args.self.now (line_of l ∷ [])) (sym c.in-Head.is)

pub returns-in-Claim : goal.returns-in-Claim
returns-in-Claim c = λ done.
    skipped_if c.args.self.now c.tell_claim.new.self (cert.Claim c.in-Claim.claim c.in-Claim.goal) c.tell_claim.result c.tell_claim.ensures c.is_none-in-Claim.result c.is_none-in-Claim.ensures done
    ∙ ap (λ (l : LineRef). behind c.args.self.now (line_of l ∷ [])) (sym c.in-Claim.is)

pub returns-in-End : goal.returns-in-End
returns-in-End c = λ done.
    skipped_if c.args.self.now c.tell_end.new.self cert.End c.tell_end.result c.tell_end.ensures c.is_none-in-End.result c.is_none-in-End.ensures done
    ∙ ap (λ (l : LineRef). behind c.args.self.now (line_of l ∷ [])) (sym c.in-End.is)
