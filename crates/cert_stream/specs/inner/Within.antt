-- What a judge keeps as long as it takes bytes.
use Rattle.std.specs.Prelude.{◌≡◌, ℕ, ◌+◌, ◌≤◌, None, length}
use Rattle.arc_num.specs.declared.TheConstants.{MAX_CERT}
use Rattle.cert_text.specs.Reading.{ReaderValue}
use Rattle.cert_stream.specs.declared.stage.Stage.{Stage}
use Rattle.cert_stream.specs.declared.stage.Stage.TheVariants.{Open, Certain, Spent}
use Rattle.cert_stream.specs.inner.Batches.{BatchValue}

-- the lines that are judged, those that wait and the bytes that are unread have come, and no more
pub record IsWithin (batch : BatchValue) (reader : ReaderValue) (taken : ℕ) : Type 0 where
  pub free : batch.checker.refusal ≡ None
  pub lines : batch.checker.progress.count + length batch.lines ≡ reader.read
  pub bytes : reader.read + length reader.unread ≤ taken
  pub whole : taken ≤ MAX_CERT

-- the same as long as a judge takes bytes
abbrev pub IsWithinAt : Stage → BatchValue → ReaderValue → ℕ → Type 0
IsWithinAt Open batch reader taken = IsWithin batch reader taken
IsWithinAt (Certain verdict) batch reader taken = Unit {0}
IsWithinAt Spent batch reader taken = Unit {0}
