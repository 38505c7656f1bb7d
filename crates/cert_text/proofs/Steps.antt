-- What the reader answers, from what it keeps.
use Rattle.std.proofs.Common.{◌≡◌, ℕ, ◌+◌, ◌-◌, ◌<◌, ◌≤◌, Bool, false, inl, inr, List, [], ◌∷◌, ◌++◌, length, drop, Ok, Err, refl, sym, ap, ◌∙◌, arith, append_assoc}
use Rattle.std.specs.List.{slice_range}
use Rattle.std.proofs.lemmas.List.{length-drop}
use Rattle.arc_num.specs.declared.TheConstants.{MAX_LINE}
use Rattle.cert_text.specs.declared.lines.CertLine.{CertLine}
use Rattle.cert_text.specs.declared.faults.LineFault.TheVariants.{Bad}
use Rattle.cert_text.specs.Reading.{ReaderValue}
use Rattle.cert_text.specs.Streams.{HasLine, IsWaiting, IsFaulty, Reads, version_after, is_end}
use Rattle.cert_text.specs.inner.Kept.{Places}
use Rattle.cert_text.proofs.Unread.{IsPartial, IsWhole}

-- the value of a reader
abbrev pub shown : List ℕ → ℕ → ℕ → ℕ → Bool → Bool → ReaderValue
shown bytes start read version ended bad = record { read = read; version = version; ended = ended; bad = bad; unread = drop start bytes }

pub waits : (bytes : List ℕ) (start read version : ℕ) (ended bad : Bool) → IsPartial bytes start version → bad ≡ false → length bytes - start ≤ MAX_LINE → IsWaiting (shown bytes start read version ended bad)
waits bytes start read version ended bad part good short = record { good = good; partial = part.no_feed; short = omega (arith, length-drop start bytes) }

pub too_long : (bytes : List ℕ) (start read version : ℕ) (ended bad : Bool) → IsPartial bytes start version → MAX_LINE < length bytes - start → IsFaulty (shown bytes start read version ended bad)
too_long bytes start read version ended bad part long = inr (inl (part.no_feed, omega (arith, length-drop start bytes)))

pub has_line : (bytes : List ℕ) (start end : ℕ) → IsWhole bytes start end → HasLine (drop start bytes)
has_line bytes start end line = (slice_range bytes start end, drop (end + 1) bytes, line.no_feed, line.parts)

pub bad_line : (bytes : List ℕ) (start end read version : ℕ) (ended bad : Bool) → IsWhole bytes start end → Places (Err Bad) (slice_range bytes start end) read version ended → IsFaulty (shown bytes start read version ended bad)
bad_line bytes start end read version ended bad line none = inr (inr (record {
  whole = has_line bytes start end line;
  none = λ l rest next. none l (drop (end + 1) bytes) rest line.no_feed next.is_open next.spelled (sym line.parts ∙ next.bytes);
}))

pub reads : (bytes : List ℕ) (start end read version after : ℕ) (ended bad last : Bool) (l : CertLine) → IsWhole bytes start end → Places (Ok l) (slice_range bytes start end) read version ended → bad ≡ false
    → after ≡ version_after version l → last ≡ is_end l → Reads (shown bytes start read version ended bad) l (shown bytes (end + 1) (read + 1) after last bad)
reads bytes start end read version after ended bad last l line place good tells ends = record {
  good = good;
  next = record {
    is_open = place.0;
    spelled = place.1;
    bytes = line.parts ∙ sym (append_assoc (slice_range bytes start end) (10 ∷ []) (drop (end + 1) bytes)) ∙ ap (λ x. x ++ drop (end + 1) bytes) place.2;
  };
  read = refl;
  version = tells;
  ended = ends;
  stays_good = good;
}
