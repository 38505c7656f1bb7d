-- What a judge is seen as, and which bytes it was fed.
use Rattle.std.specs.Prelude.{◌≡◌, ◌⊎◌, ℕ, ◌≤◌, true, false, List, [], ◌++◌, length}
use Rattle.arc_num.specs.declared.TheConstants.{MAX_CERT}
use Rattle.packing_laws.specs.Instances.{InstanceValue}
use Rattle.flow_graph.specs.Arcs.{TypeValue}
use Rattle.cert_text.specs.declared.lines.CertLine.{CertLine}
use Rattle.cert_text.specs.Spelling.{text_of}
use Rattle.cert_text.specs.Reading.{ReaderValue}
use Rattle.cert_text.specs.Streams.{IsWaiting}
use Rattle.cert_laws.specs.Rules.{Progress, after_lines, at_start, AreAccepted}
use Rattle.cert_stream.specs.declared.stage.Stage.{Stage}
use Rattle.cert_stream.specs.declared.stage.Stage.TheVariants.{Open, Certain, Spent}
use Rattle.cert_stream.specs.Verdicts.{AreInPlace, IsCertain}
use Rattle.cert_stream.specs.inner.Batches.{BatchValue, begun}

-- the lines that are judged and those that wait, how far the text is read, the number of bytes that came, and how the judge stands
pub record JudgeValue : Type 0 where
  pub batch : BatchValue
  pub reader : ReaderValue
  pub taken : ℕ
  pub stage : Stage

-- a reader stands behind these lines; before the first one its version tells nothing
pub record Agrees (r : ReaderValue) (p : Progress) : Type 0 where
  pub good : r.bad ≡ false
  pub read : r.read ≡ p.count
  pub ended : r.ended ≡ p.ended
  pub version : (r.version ≡ p.version) ⊎ (p.count ≡ 0)

-- a reader has told these lines of these bytes
pub record HasTold (I : InstanceValue) (g : List TypeValue) (bytes : List ℕ) (r : ReaderValue) (lines : List CertLine) : Type 0 where
  pub parts : bytes ≡ text_of lines ++ r.unread
  pub spelled : AreInPlace (at_start I g) lines
  pub agrees : Agrees r (after_lines (at_start I g) lines)

-- the bytes are no more than may be; lines were read, some of them are accepted, and the others wait to be judged
pub record IsRead (I : InstanceValue) (g : List TypeValue) (bytes : List ℕ) (s : JudgeValue) : Type 0 where
  pub taken : s.taken ≡ length bytes
  pub fits : length bytes ≤ MAX_CERT
  pub lines : List CertLine
  pub told : HasTold I g bytes s.reader lines
  pub judged : List CertLine
  pub parts : lines ≡ judged ++ s.batch.lines
  pub accepted : AreAccepted I g (at_start I g) judged
  pub checker : s.batch.checker ≡ begun I g (after_lines (at_start I g) judged)

-- no whole line is left unread, and nothing behind the end line
abbrev pub IsReadOut : ReaderValue → Type 0
IsReadOut r = ((r.ended ≡ true) × (r.unread ≡ [])) ⊎ ((r.ended ≡ false) × IsWaiting r)

-- these bytes were fed to a judge, by how it stands
abbrev pub IsFedAt : InstanceValue → List TypeValue → List ℕ → JudgeValue → Stage → Type 0
IsFedAt I g bytes s Open = IsRead I g bytes s
IsFedAt I g bytes s (Certain verdict) = IsCertain I g bytes verdict
IsFedAt I g bytes s Spent = Unit {0}

-- all that can be read is read
abbrev pub IsReadOutAt : JudgeValue → Stage → Type 0
IsReadOutAt s Open = IsReadOut s.reader
IsReadOutAt s (Certain verdict) = Unit {0}
IsReadOutAt s Spent = Unit {0}

-- the judge judges for this instance and this graph, and was fed these bytes, in any pieces
pub record IsFed (I : InstanceValue) (g : List TypeValue) (bytes : List ℕ) (s : JudgeValue) : Type 0 where
  pub held : IsFedAt I g bytes s s.stage
  pub read : IsReadOutAt s s.stage
