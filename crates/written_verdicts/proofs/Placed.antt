-- Accepted lines are spelled in their places.
use Rattle.std.proofs.Common.{◌≡◌, ℕ, true, false, List, [], ◌∷◌, All, sym, ◌∙◌, ⊎_elim, arith}
use Rattle.std.proofs.lemmas.List.{append-nil}
use Rattle.std.proofs.lemmas.List.Elements.{All-head, All-tail}
use Rattle.packing_laws.specs.Instances.{InstanceValue}
use Rattle.flow_graph.specs.Arcs.{TypeValue}
use Rattle.cert_text.specs.declared.lines.CertLine.{CertLine}
use Rattle.cert_text.specs.Lines.{IsInPlace, lines_of}
use Rattle.cert_text.specs.Spelled.{IsNarrowLine}
use Rattle.cert_text.specs.Spelling.{certificate_text_of}
use Rattle.cert_laws.specs.declared.causes.Cause.TheVariants as cause
use Rattle.cert_laws.specs.Rules.{AreAccepted, IsAccepted, Progress, after_line, at_start}
use Rattle.cert_stream.specs.Verdicts.{AreInPlace, IsLong}
use Rattle.written_verdicts.specs.Written.{WrittenIsShown}

-- an accepted line stands before the end line
still_open : (I : InstanceValue) (g : List TypeValue) (p : Progress) (line : CertLine) → IsAccepted I g p line → p.ended ≡ false
still_open I g p line all = (all 1 cause.Extra (omega arith)).0

pub in_place : (I : InstanceValue) (g : List TypeValue) (p : Progress) (line : CertLine) → IsAccepted I g p line → IsInPlace p.count p.version line
in_place I g p line all = ⊎_elim
    (λ (ended : p.ended ≡ true). absurd (let bad : true ≡ false = sym ended ∙ still_open I g p line all in cc))
    (λ place. place)
    (all 0 cause.Text (omega arith))

placed : (I : InstanceValue) (g : List TypeValue) (p : Progress) (lines : List CertLine) → AreAccepted I g p lines → All IsNarrowLine lines → AreInPlace p lines
placed I g p [] accepted narrow = tt
placed I g p (line ∷ lines) accepted narrow = (
  still_open I g p line accepted.0,
  record { place = in_place I g p line accepted.0; narrow = All-head IsNarrowLine line lines narrow },
  placed I g (after_line p line) lines accepted.1 (All-tail IsNarrowLine line lines narrow),
)

pub written_is_shown : WrittenIsShown
written_is_shown I g c claim certified narrow short =
    let text : List ℕ = certificate_text_of c in (
      (λ (long : IsLong I g text). let more = long.more in omega (arith, more, short)),
      (
        lines_of c,
        record {
          begins = record { parts = sym (append-nil text); spelled = placed I g (at_start I g) (lines_of c) certified.each narrow; accepted = certified.each };
          ended = certified.whole;
        },
        sym certified.told,
      ),
    )
