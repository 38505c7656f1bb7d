use Rattle.std.proofs.Common.{◌≡◌, ◌∙◌, ℕ, List, refl, sym, subst}
use Rattle.cert_text.specs.declared.lines.Claim.TheVariants.{Bound}
use Rattle.cert_text.specs.Spelling.{certificate_text_of}
use Rattle.cert_stream.specs.declared.verdict.Verdict.TheVariants.{Shown}
use Rattle.cert_stream.specs.Verdicts.{IsVerdict}
use Rattle.arc_program.proofs.Bounded.{bound_is_shown}
use Rattle.arc_program.proofs.commands.bound.certificate_text.Goals as goal

pub returns : goal.returns
returns c =
    let I = c.args.instance.now in
    let found = c.args.found in
    let certificate = c.in_ok-certificate.certificate in
    let written : c.new.result ≡ certificate_text_of certificate = c.new.ensures ∙ c.in_ok-write_certificate.ensures in
    record {
      found = found;
      is = c.requires;
      text_is = refl;
      certificate = certificate;
      told = c.in_ok-certificate.ensures.told;
      accepted = c.in_ok-certificate.ensures.accepted;
      bytes_are = written;
      shown = λ g graph faithful.
          subst (λ (bytes : List ℕ). IsVerdict I g bytes (Shown (Bound found.bound))) (sym written)
          (bound_is_shown c.few_splits_are_shown.ensures I found certificate c.known.ensures c.in_ok-certificate.ensures.told c.in_ok-certificate.ensures.accepted g graph faithful);
    }
