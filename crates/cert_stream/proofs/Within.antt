-- What a judge keeps as long as it takes bytes.
use Rattle.std.proofs.Common.{◌≡◌, ℕ, ◌+◌, ◌<◌, List, [], ◌∷◌, ◌++◌, length, ap, sym, subst, arith, length-append}
use Rattle.std.specs.Prelude.{Ok, Option, None, Some}
use Rattle.cert_text.specs.declared.lines.CertLine.{CertLine}
use Rattle.cert_text.specs.Spelling.{line_text_of}
use Rattle.cert_text.specs.Reading.{ReaderValue}
use Rattle.cert_text.specs.Streams.{Reads}
use Rattle.cert_text.proofs.Texts.{body_of}
use Rattle.cert_laws.specs.declared.causes.Cause.{Cause}
use Rattle.cert_checker.specs.Checkers.{CheckerValue}
use Rattle.cert_stream.specs.declared.stage.Stage.{Stage}
use Rattle.cert_stream.specs.declared.stage.Stage.TheVariants.{Open}
use Rattle.cert_stream.specs.inner.Batches.{BatchValue, HasAccepted, IsJudged, IsPassedOn}
use Rattle.cert_stream.specs.inner.Stages.{stage_of}
use Rattle.cert_stream.specs.inner.Within.{IsWithin, IsWithinAt}
use Rattle.cert_stream.proofs.Behind.{lines_count}

counted : (old : CheckerValue) (lines : List CertLine) (new : CheckerValue) → HasAccepted old lines new → new.progress.count ≡ old.progress.count + length lines
counted old lines new has =
    let same = ap (λ (x : CheckerValue). x.progress.count) has.left in
    let count = lines_count old.progress lines in
    omega (arith, same, count)

-- less is unread behind a line
pub less_unread : (r : ReaderValue) (line : CertLine) (new : ReaderValue) → Reads r line new → length new.unread < length r.unread
less_unread r line new reads =
    let whole : length r.unread ≡ length (line_text_of line ++ new.unread) = ap (λ (t : List ℕ). length t) reads.next.bytes in
    let size = length-append (line_text_of line) new.unread in
    let text = length-append (body_of line) (10 ∷ []) in
    omega (arith, whole, size, text)

pub within_behind : (refusal : Option (ℕ × Cause)) (batch : BatchValue) (reader : ReaderValue) (taken : ℕ) → IsWithinAt (stage_of refusal) batch reader taken
within_behind None batch reader taken = tt
within_behind (Some x) batch reader taken = tt

module _ (batch : BatchValue) (reader : ReaderValue) (taken : ℕ) (is : IsWithin batch reader taken) where
  pub within_judged : (b : BatchValue) → IsJudged batch.checker batch.lines (Ok tt) b.checker → b.lines ≡ [] → IsWithin b reader taken
  within_judged b judged none = record {
    free = ap (λ (x : CheckerValue). x.refusal) judged.left;
    lines = (let count = counted batch.checker batch.lines b.checker judged in let size : length b.lines ≡ 0 = ap (λ (ls : List CertLine). length ls) none in let before = is.lines in omega (arith, count, size, before));
    bytes = is.bytes;
    whole = is.whole;
  }

  pub within_read : (line : CertLine) (new : ReaderValue) → Reads reader line new → (b : BatchValue) → IsPassedOn batch (line ∷ []) b → IsWithin b new taken
  within_read line new reads b passed = record {
    free = ap (λ (x : CheckerValue). x.refusal) passed.accepted.left;
    lines = (
        let count = counted batch.checker passed.judged b.checker passed.accepted in
        let parts : length (batch.lines ++ line ∷ []) ≡ length (passed.judged ++ b.lines) = ap (λ (ls : List CertLine). length ls) passed.lines in
        let one = length-append batch.lines (line ∷ []) in
        let other = length-append passed.judged b.lines in
        let before = is.lines in
        let read = reads.read in
        omega (arith, count, parts, one, other, before, read));
    bytes = (let less = less_unread reader line new reads in let read = reads.read in let before = is.bytes in omega (arith, less, read, before));
    whole = is.whole;
  }

module _ (batch : BatchValue) (reader : ReaderValue) (taken : ℕ) (stage : Stage) (is : stage ≡ Open) where
  pub within_open : IsWithinAt stage batch reader taken → IsWithin batch reader taken
  within_open within = subst (λ (x : Stage). IsWithinAt x batch reader taken) is within

  pub open_within : IsWithin batch reader taken → IsWithinAt stage batch reader taken
  open_within within = subst (λ (x : Stage). IsWithinAt x batch reader taken) (sym is) within
