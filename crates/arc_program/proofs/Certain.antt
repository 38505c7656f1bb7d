-- Verdicts on certificates: one for each text, and no text that goes on is accepted.
use Rattle.std.proofs.Common.{◌≡◌, ◌∙◌, ℕ, ◌+◌, List, [], ◌∷◌, ◌++◌, length, refl, ap, subst, inl, Some}
use Rattle.std.proofs.lemmas.List.{append-nil}
use Rattle.packing_laws.specs.Instances.{InstanceValue}
use Rattle.flow_graph.specs.Arcs.{TypeValue}
use Rattle.cert_text.specs.declared.lines.Claim.{Claim}
use Rattle.cert_text.specs.Spelling.{text_of}
use Rattle.cert_laws.specs.Rules.{at_start}
use Rattle.cert_laws.specs.declared.causes.Cause.TheVariants.{Extra}
use Rattle.cert_stream.specs.declared.verdict.Verdict.{Verdict}
use Rattle.cert_stream.specs.declared.verdict.Verdict.TheVariants.{Shown, Faulty}
use Rattle.cert_stream.specs.Verdicts.{Begins, IsFaultyAt, IsVerdict, IsCertain}
use Rattle.cert_stream.specs.Laws.{VerdictsAreExact}
use Rattle.arc_compile.specs.CompileLaws.{CompiledGraphsAreOne}
use Rattle.arc_program.specs.declared.status.Status.{Status}
use Rattle.arc_program.specs.Printing.{Line}
use Rattle.arc_program.specs.commands.Check.{IsChecked, IsAcceptable, Says, IsNotAccepted}

-- where there is a report, the second text is accepted
pub acceptable : (I : InstanceValue) (bytes : List ℕ) (status : Status) (text : List ℕ) → IsChecked I (Some bytes) status text → IsAcceptable I bytes
acceptable I bytes status text report = record { graph = report.graph; compiled = report.compiled; claim = report.claim; accepted = report.accepted }

-- a certificate that is accepted is not refused
pub accepted_or_not : CompiledGraphsAreOne → VerdictsAreExact → (I : InstanceValue) (name bytes : List ℕ) (line : Line) → IsAcceptable I bytes → IsNotAccepted I name (Some bytes) line → ⊥
accepted_or_not one exact I name bytes line fit bad =
    let graphs : fit.graph ≡ bad.graph = (one I fit.graph bad.graph fit.compiled.0 bad.compiled.0 fit.compiled.1 bad.compiled.1).0 in
    let over : IsVerdict I bad.graph bytes (Shown fit.claim) = subst (λ (g : List TypeValue). IsVerdict I g bytes (Shown fit.claim)) graphs fit.accepted in
    let same : bad.verdict ≡ Shown fit.claim = exact I bad.graph bytes bad.verdict (Shown fit.claim) bad.judged over in
    subst (λ (v : Verdict). Says name v line) same bad.says

-- behind a certificate that is accepted each further byte is a fault, so a text that may go on is never certain to be accepted
pub certain_not_shown : VerdictsAreExact → (I : InstanceValue) (g : List TypeValue) (bytes : List ℕ) (claim : Claim) → IsCertain I g bytes (Shown claim) → ⊥
certain_not_shown exact I g bytes claim certain =
    let more : List ℕ = 0 ∷ [] in
    let here : IsVerdict I g bytes (Shown claim) = subst (λ (xs : List ℕ). IsVerdict I g xs (Shown claim)) (append-nil bytes) (certain []) in
    let there : IsVerdict I g (bytes ++ more) (Shown claim) = certain more in
    let shown = here.1.1 in
    let begins : Begins I g (at_start I g) (bytes ++ more) here.1.0 more = record {
      parts = ap (λ (xs : List ℕ). xs ++ more) (shown.begins.parts ∙ append-nil (text_of here.1.0));
      spelled = shown.begins.spelled;
      accepted = shown.begins.accepted;
    } in
    let faulty : IsFaultyAt I g (bytes ++ more) (length here.1.0 + 1) Extra = record { lines = here.1.0; rest = more; begins = begins; next = inl ((shown.ended, λ e. cc), refl); place = refl } in
    let clash : Shown claim ≡ Faulty (length here.1.0 + 1) Extra = exact I g (bytes ++ more) (Shown claim) (Faulty (length here.1.0 + 1) Extra) there (there.0, faulty) in
    cc
