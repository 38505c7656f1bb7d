-- What the text of a certificate comes to: what it shows, its first faulty line, or that it is too long.
use Rattle.std.specs.Prelude.{◌≡◌, ◌≢◌, ◌⊎◌, ℕ, ◌+◌, ◌≤◌, ◌<◌, true, false, List, [], ◌∷◌, ◌++◌, length, take}
use Rattle.arc_num.specs.declared.TheConstants.{MAX_CERT, MAX_LINE}
use Rattle.packing_laws.specs.Instances.{InstanceValue}
use Rattle.flow_graph.specs.Arcs.{TypeValue}
use Rattle.cert_text.specs.declared.lines.CertLine.{CertLine}
use Rattle.cert_text.specs.Spelling.{text_of}
use Rattle.cert_text.specs.Spelled.{IsSpelled}
use Rattle.cert_text.specs.Reading.{ReaderValue}
use Rattle.cert_text.specs.Streams.{HasNext, HasNoFeed}
use Rattle.cert_laws.specs.declared.causes.Cause.{Cause}
use Rattle.cert_laws.specs.declared.causes.Cause.TheVariants.{Extra, Text, Unfinished}
use Rattle.cert_laws.specs.Rules.{Progress, after_line, after_lines, at_start, AreAccepted, IsRefused}
use Rattle.cert_stream.specs.declared.verdict.Verdict.{Verdict}
use Rattle.cert_stream.specs.declared.verdict.Verdict.TheVariants.{Shown, Faulty, TooLong}

-- each of these lines is spelled in its place behind those before it, and none stands behind the end line
abbrev pub AreInPlace : Progress → List CertLine → Type 0
AreInPlace p [] = Unit {0}
AreInPlace p (line ∷ lines) = (p.ended ≡ false) × IsSpelled p.count p.version line × AreInPlace (after_line p line) lines

-- bytes are the texts of lines, one after the other, and then the rest; each line is spelled in its place and accepted there
pub record Begins (I : InstanceValue) (g : List TypeValue) (p : Progress) (bytes : List ℕ) (lines : List CertLine) (rest : List ℕ) : Type 0 where
  pub parts : bytes ≡ text_of lines ++ rest
  pub spelled : AreInPlace p lines
  pub accepted : AreAccepted I g p lines

-- how a reader stands behind these lines, where these bytes are left
abbrev pub reading : Progress → List ℕ → ReaderValue
reading p rest = record { read = p.count; version = p.version; ended = p.ended; bad = false; unread = rest }

-- bytes stand behind the end line
abbrev pub IsPastEnd : Progress → List ℕ → Type 0
IsPastEnd p rest = (p.ended ≡ true) × (rest ≢ [])

-- the text ends before the end line, behind a whole line
abbrev pub IsCutShort : Progress → List ℕ → Type 0
IsCutShort p rest = (p.ended ≡ false) × (rest ≡ [])

-- what is left before the end line begins with no line that is spelled in its place: there is another line, or one that is longer
-- than any, or one without its line feed
pub record HasNoLine (p : Progress) (rest : List ℕ) : Type 0 where
  pub is_open : p.ended ≡ false
  pub more : rest ≢ []
  pub none : (line : CertLine) (after : List ℕ) → HasNext (reading p rest) line after → ⊥

-- the next line is spelled in its place, and is refused
pub record HasRefused (I : InstanceValue) (g : List TypeValue) (p : Progress) (rest : List ℕ) (fault : Cause) : Type 0 where
  pub line : CertLine
  pub after : List ℕ
  pub next : HasNext (reading p rest) line after
  pub refused : IsRefused I g p line fault

-- what is wrong behind accepted lines, where these bytes are left and then the text ends
abbrev pub IsNextFault : InstanceValue → List TypeValue → Progress → List ℕ → Cause → Type 0
IsNextFault I g p rest fault =
    (IsPastEnd p rest × (fault ≡ Extra)) ⊎ ((IsCutShort p rest × (fault ≡ Unfinished)) ⊎ ((HasNoLine p rest × (fault ≡ Text)) ⊎ HasRefused I g p rest fault))

-- the text is longer than any certificate may be, and nothing is wrong up to there: the first bytes, as many as may be, are accepted
-- lines without the end line, and then at most as many bytes as a line may have, without a line feed
pub record IsLong (I : InstanceValue) (g : List TypeValue) (bytes : List ℕ) : Type 0 where
  pub more : MAX_CERT < length bytes
  pub lines : List CertLine
  pub rest : List ℕ
  pub begins : Begins I g (at_start I g) (take MAX_CERT bytes) lines rest
  pub running : (after_lines (at_start I g) lines).ended ≡ false
  pub partial : HasNoFeed rest
  pub short : length rest ≤ MAX_LINE

-- the text is accepted lines with the end line last, and this is what they claim
pub record IsShown (I : InstanceValue) (g : List TypeValue) (bytes : List ℕ) (lines : List CertLine) : Type 0 where
  pub begins : Begins I g (at_start I g) bytes lines []
  pub ended : (after_lines (at_start I g) lines).ended ≡ true

-- behind some accepted lines something is wrong: the number of the line where it is, and the cause
pub record IsFaultyAt (I : InstanceValue) (g : List TypeValue) (bytes : List ℕ) (number : ℕ) (fault : Cause) : Type 0 where
  pub lines : List CertLine
  pub rest : List ℕ
  pub begins : Begins I g (at_start I g) bytes lines rest
  pub next : IsNextFault I g (after_lines (at_start I g) lines) rest fault
  pub place : number ≡ length lines + 1

-- what the text of a certificate comes to
abbrev pub IsVerdict : InstanceValue → List TypeValue → List ℕ → Verdict → Type 0
IsVerdict I g bytes (Shown claim) = (IsLong I g bytes → ⊥) × ((lines : List CertLine) × IsShown I g bytes lines × (claim ≡ (after_lines (at_start I g) lines).claim))
IsVerdict I g bytes (Faulty line fault) = (IsLong I g bytes → ⊥) × IsFaultyAt I g bytes line fault
IsVerdict I g bytes TooLong = IsLong I g bytes

-- the verdict is certain: each text that begins with these bytes has it
abbrev pub IsCertain : InstanceValue → List TypeValue → List ℕ → Verdict → Type 0
IsCertain I g bytes verdict = (more : List ℕ) → IsVerdict I g (bytes ++ more) verdict

-- nothing is wrong so far: accepted lines, and behind the end line nothing, before it less than a line
pub record IsSound (I : InstanceValue) (g : List TypeValue) (bytes : List ℕ) : Type 0 where
  pub lines : List CertLine
  pub rest : List ℕ
  pub begins : Begins I g (at_start I g) bytes lines rest
  pub partial : HasNoFeed rest
  pub short : length rest ≤ MAX_LINE
  pub ended : (after_lines (at_start I g) lines).ended ≡ true → rest ≡ []
