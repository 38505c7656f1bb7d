-- What `check` owes: the claim of a certificate that is accepted over the graph of the instance, or why it is refused.
use Rattle.std.specs.Prelude.{◌≡◌, ℕ, List, IfSome}
use Rattle.arc_io.specs.Bytes.{Told}
use Rattle.packing_laws.specs.Instances.{InstanceValue}
use Rattle.flow_graph.specs.Arcs.{TypeValue}
use Rattle.cert_text.specs.declared.lines.Claim.{Claim}
use Rattle.cert_laws.specs.Shown.{Shows}
use Rattle.cert_stream.specs.declared.verdict.Verdict.{Verdict}
use Rattle.cert_stream.specs.declared.verdict.Verdict.TheVariants.{Shown, Faulty, TooLong}
use Rattle.cert_stream.specs.Verdicts.{IsVerdict, IsSound}
use Rattle.arc_compile.specs.Graphs.{IsSmall}
use Rattle.arc_program.specs.declared.status.Status.{Status}
use Rattle.arc_program.specs.declared.status.Status.TheVariants.{Done}
use Rattle.arc_program.specs.Printing.{Line}
use Rattle.arc_program.specs.Refusals.{long_line}
use Rattle.arc_program.specs.Verdicts.{claim_text, faulty_line}
use Rattle.arc_program.specs.commands.Extract.{IsCompiled}

-- the text is the claim of the second text, which is a certificate that is accepted over the graph of the instance; and what it
-- claims is so
pub record IsChecked (I : InstanceValue) (second : Told) (status : Status) (text : List ℕ) : Type 0 where
  pub graph : List TypeValue
  pub compiled : IsCompiled I graph
  pub small : IsSmall I
  pub claim : Claim
  pub accepted : IfSome second (λ bytes. IsVerdict I graph bytes (Shown claim))
  pub shows : Shows I claim
  pub text_is : text ≡ claim_text claim
  pub status_is : status ≡ Done

-- the bytes are a certificate that is accepted over the graph of the instance
pub record IsAcceptable (I : InstanceValue) (bytes : List ℕ) : Type 0 where
  pub graph : List TypeValue
  pub compiled : IsCompiled I graph
  pub claim : Claim
  pub accepted : IsVerdict I graph bytes (Shown claim)

-- the bytes are the begin of a certificate in which nothing is wrong so far
abbrev pub IsUnjudged : InstanceValue → List ℕ → Type 0
IsUnjudged I bytes = (graph : List TypeValue) × IsCompiled I graph × IsSound I graph bytes

-- the line says what is wrong with a certificate of this name: its first faulty line with the cause, or that it is too long
abbrev pub Says : List ℕ → Verdict → Line → Type 0
Says name (Shown claim) line = ⊥
Says name (Faulty number cause) line = line ≡ faulty_line name number cause
Says name TooLong line = line ≡ long_line name

-- the second text, under this name, is no certificate that is accepted over the graph of the instance, and the line says why
pub record IsNotAccepted (I : InstanceValue) (name : List ℕ) (second : Told) (line : Line) : Type 0 where
  pub graph : List TypeValue
  pub compiled : IsCompiled I graph
  pub verdict : Verdict
  pub judged : IfSome second (λ bytes. IsVerdict I graph bytes verdict)
  pub says : Says name verdict line
