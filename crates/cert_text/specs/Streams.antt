-- A text that comes in pieces and is read line by line.
use Rattle.std.specs.Prelude.{◌≡◌, ◌≢◌, ◌⊎◌, ℕ, ◌+◌, ◌<◌, ◌≤◌, Bool, true, false, List, ◌∷◌, ◌++◌, length, All}
use Rattle.arc_num.specs.declared.TheConstants.{MAX_LINE}
use Rattle.cert_text.specs.declared.lines.CertLine.{CertLine}
use Rattle.cert_text.specs.declared.lines.CertLine.TheVariants as cert
use Rattle.cert_text.specs.declared.answer.LineAnswer.{LineAnswer}
use Rattle.cert_text.specs.declared.answer.LineAnswer.TheVariants as answer
use Rattle.cert_text.specs.Spelling.{line_feed, line_text_of}
use Rattle.cert_text.specs.Spelled.{IsSpelled}
use Rattle.cert_text.specs.Reading.{ReaderValue}

-- no line ends in these bytes
abbrev pub HasNoFeed : List ℕ → Type 0
HasNoFeed bytes = All (λ b. b ≢ line_feed) bytes

-- a line ends in these bytes
abbrev pub HasLine : List ℕ → Type 0
HasLine bytes = (text rest : List ℕ) × HasNoFeed text × (bytes ≡ text ++ line_feed ∷ rest)

-- the version behind a line: a head tells it
abbrev pub version_after : ℕ → CertLine → ℕ
version_after version (cert.Head number) = number
version_after version (cert.Claim claim goal) = version
version_after version (cert.Tree line) = version
version_after version cert.End = version

abbrev pub is_end : CertLine → Bool
is_end (cert.Head number) = false
is_end (cert.Claim claim goal) = false
is_end (cert.Tree line) = false
is_end cert.End = true

-- the unread bytes begin with this line, which has its place there; no line has a place after the end line
pub record HasNext (r : ReaderValue) (line : CertLine) (rest : List ℕ) : Type 0 where
  pub is_open : r.ended ≡ false
  pub spelled : IsSpelled r.read r.version line
  pub bytes : r.unread ≡ line_text_of line ++ rest

-- less than a line, which may still become one
pub record IsWaiting (r : ReaderValue) : Type 0 where
  pub good : r.bad ≡ false
  pub partial : HasNoFeed r.unread
  pub short : length r.unread ≤ MAX_LINE

-- more bytes without a line feed than a line can have
abbrev pub IsTooLong : List ℕ → Type 0
IsTooLong bytes = HasNoFeed bytes × (MAX_LINE < length bytes)

-- a line ends in the unread bytes, and no line that has its place there is spelled so
pub record HasBadLine (r : ReaderValue) : Type 0 where
  pub whole : HasLine r.unread
  pub none : (line : CertLine) (rest : List ℕ) → HasNext r line rest → ⊥

-- the text is bad: it was found so before, or is so now
abbrev pub IsFaulty : ReaderValue → Type 0
IsFaulty r = (r.bad ≡ true) ⊎ (IsTooLong r.unread ⊎ HasBadLine r)

-- the line is read
pub record Reads (old : ReaderValue) (line : CertLine) (new : ReaderValue) : Type 0 where
  pub good : old.bad ≡ false
  pub next : HasNext old line new.unread
  pub read : new.read ≡ old.read + 1
  pub version : new.version ≡ version_after old.version line
  pub ended : new.ended ≡ is_end line
  pub stays_good : new.bad ≡ false

-- What the next line is answered with: the line, or that it is not there yet, or that the text is bad, from then on; or want of
-- memory, with the line still unread.
abbrev pub Answers : ReaderValue → LineAnswer → ReaderValue → Type 0
Answers old (answer.Line line) new = Reads old line new
Answers old answer.NotYet new = IsWaiting old × (new ≡ old)
Answers old (answer.Bad line) new = IsFaulty old × (line ≡ old.read + 1) × (new ≡ record old { bad = true })
Answers old answer.Memory new = (old.bad ≡ false) × HasLine old.unread × (new ≡ old)

-- a piece is appended to what is not read yet
abbrev pub Takes : ReaderValue → List ℕ → ReaderValue → Type 0
Takes old piece new = new ≡ record old { unread = old.unread ++ piece }
