-- Laws of the text: one spelling, no prefix of another, and any pieces.
use Rattle.std.specs.Prelude.{◌≡◌, ◌⊎◌, ℕ, ◌+◌, List, [], ◌∷◌, ◌++◌}
use Rattle.std.proofs.Common.{inl, inr}
use Rattle.cert_text.specs.declared.lines.Certificate.{Certificate}
use Rattle.cert_text.specs.declared.lines.CertLine.{CertLine}
use Rattle.cert_text.specs.declared.answer.LineAnswer.{LineAnswer}
use Rattle.cert_text.specs.declared.answer.LineAnswer.TheVariants as answer
use Rattle.cert_text.specs.Lines.{lines_of}
use Rattle.cert_text.specs.Spelling.{line_text_of, certificate_text_of}
use Rattle.cert_text.specs.Spelled.{IsSpelled}
use Rattle.cert_text.specs.Reading.{ReaderValue, beginning}
use Rattle.cert_text.specs.Streams.{version_after, IsFaulty, Answers, Takes}

-- two lines with one text, at one place of texts of one version, are one line
abbrev pub LinesHaveOneSpelling : Type 0
LinesHaveOneSpelling = (before version : ℕ) (l m : CertLine) → IsSpelled before version l → IsSpelled before version m → line_text_of l ≡ line_text_of m → l ≡ m

-- lines that may stand one after the other
abbrev pub AreSpelled : ℕ → ℕ → List CertLine → Type 0
AreSpelled before version [] = Unit {0}
AreSpelled before version (l ∷ ls) = IsSpelled before version l × AreSpelled (before + 1) (version_after version l) ls

-- a certificate that has a text
abbrev pub HasText : Certificate → Type 0
HasText c = AreSpelled 0 1 (lines_of c)

-- a certificate's text that begins with another's is this one's, of the same certificate
abbrev pub NoTextBeginsAnother : Type 0
NoTextBeginsAnother = (c d : Certificate) (more : List ℕ) → HasText c → HasText d → certificate_text_of c ++ more ≡ certificate_text_of d → (c ≡ d) × (more ≡ [])

-- what happened to a reader, one after the other: a piece came, or a line was read
abbrev pub Happens : ReaderValue → List (List ℕ ⊎ CertLine) → ReaderValue → Type 0
Happens old [] new = new ≡ old
Happens old (inl piece ∷ more) new = (between : ReaderValue) × Takes old piece between × Happens between more new
Happens old (inr line ∷ more) new = (between : ReaderValue) × Answers old (answer.Line line) between × Happens between more new

-- all bytes that came
abbrev pub came : List (List ℕ ⊎ CertLine) → List ℕ
came [] = []
came (inl piece ∷ more) = piece ++ came more
came (inr line ∷ more) = came more

-- all lines that were read
abbrev pub told : List (List ℕ ⊎ CertLine) → List CertLine
told [] = []
told (inl piece ∷ more) = told more
told (inr line ∷ more) = line ∷ told more

-- an answer that tells no line, and for which memory was enough
abbrev pub IsLast : LineAnswer → Type 0
IsLast (answer.Line line) = ⊥
IsLast answer.NotYet = Unit {0}
IsLast (answer.Bad line) = Unit {0}
IsLast answer.Memory = ⊥

-- Two readers that were fed one text, each in its own pieces, and were asked until they told no line more, told the same lines, and
-- then the same.
abbrev pub PiecesDoNotMatter : Type 0
PiecesDoNotMatter =
    (events others : List (List ℕ ⊎ CertLine)) (r s next after : ReaderValue) (a b : LineAnswer) → Happens beginning events r → Happens beginning others s → came events ≡ came others
    → Answers r a next → Answers s b after → IsLast a → IsLast b → (told events ≡ told others) × (a ≡ b)

-- A text that is bad stays bad, however it goes on: so who finds a bad line in a few pieces finds the one that all of the text has.
abbrev pub BadStaysBad : Type 0
BadStaysBad = (r : ReaderValue) (piece : List ℕ) → IsFaulty r → IsFaulty (record r { unread = r.unread ++ piece })
