use Rattle.std.proofs.Common.{◌≡◌, ◌+◌, ◌-◌, ◌≤◌, ◌<◌, ◌∙◌, Some, None, Ok, Err, length, sym, subst, refl}
use Rattle.std.specs.Prelude.{◌==◌, position}
use Rattle.std.specs.List.{slice_range}
use Rattle.arc_num.specs.declared.TheConstants.{MAX_LINE}
use Rattle.cert_text.specs.declared.faults.LineFault.TheVariants.{Bad}
use Rattle.cert_text.specs.inner.Kept.{Places}
use Rattle.cert_text.proofs.Unread.{partial, whole}
use Rattle.cert_text.proofs.Steps.{waits, too_long, has_line, bad_line, reads}
use Rattle.cert_text.proofs.reader.CertReader.line.Goals as goal

pub invariant_of-self : goal.invariant_of-self
invariant_of-self c =
    let same = c.as_slice-bytes.ensures.value in
    let none = subst (λ v. position (λ b. b == 10) (slice_range v c.self.inside.clear (length v)) ≡ None) same (sym c.first_place.ensures ∙ c.in_default.is) in
    let part = partial c.self.inside.bytes.items c.self.inside.start c.self.inside.clear c.self.inside.version c.self.invariant none in
    rw same part.kept

pub returns-then-self-le-MAX_LINE : goal.returns-then-self-le-MAX_LINE
returns-then-self-le-MAX_LINE c =
    let same = c.as_slice-bytes.ensures.value in
    let none = subst (λ v. position (λ b. b == 10) (slice_range v c.self.inside.clear (length v)) ≡ None) same (sym c.first_place.ensures ∙ c.in_default.is) in
    let part = partial c.self.inside.bytes.items c.self.inside.start c.self.inside.clear c.self.inside.version c.self.invariant none in
    let short = subst (λ v. length v - c.self.inside.start ≤ MAX_LINE) same c.if-self-le-MAX_LINE.true in
    rw (← c.self.view_is) (waits c.self.inside.bytes.items c.self.inside.start c.self.inside.read c.self.inside.version c.self.inside.is_ended c.self.inside.is_bad part c.if-self.false short, refl)

pub invariant_of-self-in_default : goal.invariant_of-self-in_default
invariant_of-self-in_default c =
    let same = c.as_slice-bytes.ensures.value in
    let none = subst (λ v. position (λ b. b == 10) (slice_range v c.self.inside.clear (length v)) ≡ None) same (sym c.first_place.ensures ∙ c.in_default.is) in
    let part = partial c.self.inside.bytes.items c.self.inside.start c.self.inside.clear c.self.inside.version c.self.invariant none in
    rw same part.kept

pub returns-in_default : goal.returns-in_default
returns-in_default c =
    let same = c.as_slice-bytes.ensures.value in
    let none = subst (λ v. position (λ b. b == 10) (slice_range v c.self.inside.clear (length v)) ≡ None) same (sym c.first_place.ensures ∙ c.in_default.is) in
    let part = partial c.self.inside.bytes.items c.self.inside.start c.self.inside.clear c.self.inside.version c.self.invariant none in
    let long = subst (λ v. MAX_LINE < length v - c.self.inside.start) same c.if-self-le-MAX_LINE.false in
    rw (← c.self.view_is) (too_long c.self.inside.bytes.items c.self.inside.start c.self.inside.read c.self.inside.version c.self.inside.is_ended c.self.inside.is_bad part long, refl, refl)

pub returns-in-Err-Memory : goal.returns-in-Err-Memory
returns-in-Err-Memory c =
    let same = c.as_slice-bytes.ensures.value in
    let some = subst (λ v. position (λ b. b == 10) (slice_range v c.self.inside.clear (length v)) ≡ Some c.in-Some.gap) same (sym c.first_place.ensures ∙ c.in-Some.is) in
    let found = whole c.self.inside.bytes.items c.self.inside.start c.self.inside.clear c.in-Some.gap c.self.inside.version c.self.invariant some in
    rw (← c.self.view_is) (c.if-self.false, has_line c.self.inside.bytes.items c.self.inside.start (c.self.inside.clear + c.in-Some.gap) found, refl)

pub returns-in-Err-Bad : goal.returns-in-Err-Bad
returns-in-Err-Bad c =
    let same = c.as_slice-bytes.ensures.value in
    let some = subst (λ v. position (λ b. b == 10) (slice_range v c.self.inside.clear (length v)) ≡ Some c.in-Some.gap) same (sym c.first_place.ensures ∙ c.in-Some.is) in
    let found = whole c.self.inside.bytes.items c.self.inside.start c.self.inside.clear c.in-Some.gap c.self.inside.version c.self.invariant some in
    let place = rw c.in-Err-Bad.field-0-is at c.in-Err-Bad.ensures in
    let none = subst (λ v. Places (Err Bad) (slice_range v c.self.inside.start (c.self.inside.clear + c.in-Some.gap)) c.self.inside.read c.self.inside.version c.self.inside.is_ended) same place in
    rw (← c.self.view_is) (bad_line c.self.inside.bytes.items c.self.inside.start (c.self.inside.clear + c.in-Some.gap) c.self.inside.read c.self.inside.version c.self.inside.is_ended c.self.inside.is_bad found none, refl, refl)

pub returns-in-Ok : goal.returns-in-Ok
returns-in-Ok c =
    let same = c.as_slice-bytes.ensures.value in
    let some = subst (λ v. position (λ b. b == 10) (slice_range v c.self.inside.clear (length v)) ≡ Some c.in-Some.gap) same (sym c.first_place.ensures ∙ c.in-Some.is) in
    let found = whole c.self.inside.bytes.items c.self.inside.start c.self.inside.clear c.in-Some.gap c.self.inside.version c.self.invariant some in
    let place = subst (λ v. Places (Ok c.in-Ok.found) (slice_range v c.self.inside.start (c.self.inside.clear + c.in-Some.gap)) c.self.inside.read c.self.inside.version c.self.inside.is_ended) same c.in-Ok.ensures in
    rw (← c.self.view_is) (reads c.self.inside.bytes.items c.self.inside.start (c.self.inside.clear + c.in-Some.gap) c.self.inside.read c.self.inside.version c.version_after-self-inside.result c.self.inside.is_ended c.self.inside.is_bad c.is_end-self-inside.result c.in-Ok.found found place c.if-self.false c.version_after-self-inside.ensures c.is_end-self-inside.ensures)
