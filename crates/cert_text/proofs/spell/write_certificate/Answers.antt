use Rattle.std.proofs.Common.{[], ◌++◌, ◌∙◌, ap}
use Rattle.std.specs.Prelude.{flat_map}
use Rattle.cert_text.specs.declared.lines.CertLine.TheVariants as cert
use Rattle.cert_text.specs.Spelling.{line_text_of}
use Rattle.cert_text.proofs.WrittenLines.{four, whole_text}
use Rattle.cert_text.proofs.spell.write_certificate.Goals as goal

pub returns : goal.returns
returns c =
    let w = c.args.certificate.now in
    four [] c.push_head.new.out.items c.push_claim.new.out.items c.push_tree_lines.new.out.items c.push_bytes.new.out.items (line_text_of (cert.Head w.version)) (line_text_of (cert.Claim w.claim w.goal)) (flat_map (λ l. line_text_of (cert.Tree l)) w.lines) (line_text_of cert.End) (c.in_ok-push_head.ensures ∙ ap (λ t. t ++ line_text_of (cert.Head w.version)) c.new-out.ensures.items) c.in_ok-push_claim.ensures (c.in_ok-push_tree_lines.ensures ∙ ap (λ ls. c.push_claim.new.out.items ++ flat_map (λ l. line_text_of (cert.Tree l)) ls) c.as_slice.ensures) c.in_ok-push_bytes.ensures.ok
    ∙ whole_text w
