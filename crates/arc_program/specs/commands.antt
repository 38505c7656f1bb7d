-- What each command owes for an instance.
pub mod Compile
pub mod Solve
pub mod Export
pub mod JointExport
pub mod Extract
pub mod Check
pub mod Bound
use Rattle.std.specs.Prelude.{◌≡◌, ◌⊎◌, ℕ, Bool, true, false, List, take, drop, Some, IfSome, Option, None}
use Rattle.std.specs.Option.{IsSomeAnd}
use Rattle.arc_io.specs.Bytes.{Told}
use Rattle.packing_laws.specs.Instances.{InstanceValue}
use Rattle.cert_text.specs.declared.lines.Certificate.{Certificate}
use Rattle.cert_text.specs.Spelling.{certificate_text_of}
use Rattle.arc_program.specs.declared.status.Status.{Status}
use Rattle.command_words.specs.Requests.{Request, Compiles, Solves, Checks, Exports, Extracts, Bounds, Makes}
use Rattle.arc_program.specs.World.{ShelfSeen}
use Rattle.arc_program.specs.Reading.{LeavesNothing}
use Rattle.arc_program.specs.Printing.{Line}
use Rattle.arc_program.specs.commands.Compile.{IsGraphReport}
use Rattle.arc_program.specs.commands.Solve.{IsSolved, IsMade}
use Rattle.arc_program.specs.commands.Export.{IsExport}
use Rattle.arc_program.specs.commands.JointExport.{IsJointExport}
use Rattle.arc_program.specs.commands.Extract.{IsExtracted, GivesNoFlow, GivesFlow}
use Rattle.arc_program.specs.commands.Check.{IsChecked, IsNotAccepted, IsAcceptable, IsUnjudged}
use Rattle.arc_program.specs.commands.Bound.{IsBoundReport, IsBoundCertificate}

-- the text is the model that is owed for the instance, over a graph for each type or over one for all
abbrev pub IsModel : Bool → InstanceValue → Status → List ℕ → Type 0
IsModel false I status text = IsExport I status text
IsModel true I status text = IsJointExport I status text

-- the text is the report that is owed for the instance and for the bytes of the second text, where these are told; this is the
-- status of a run that prints it, and the certificate is that of an outcome that it tells
abbrev pub IsReport : Request → Told → InstanceValue → Status → List ℕ → Option Certificate → Type 0
IsReport (Compiles name mvp workers) second I status text made = IsGraphReport I status text × (made ≡ None)
IsReport (Solves name mvp nodes certificate workers) second I status text made = IsSolved I nodes status text made
IsReport (Checks name certificate mvp workers) second I status text made = IsChecked I second status text × (made ≡ None)
IsReport (Exports name mvp joint) second I status text made = IsModel joint I status text × (made ≡ None)
IsReport (Extracts name solution mvp) second I status text made = IsExtracted I second status text × (made ≡ None)
IsReport (Bounds name mvp certificate) second I status text made = IsBoundReport I status text × (made ≡ None)
IsReport (Makes seed size nodes workers) second I status text made = IsMade I seed size nodes status text made

-- the line says why the bytes of the second text, where these are told, are refused for the instance
abbrev pub IsRejection : Request → Told → InstanceValue → Line → Type 0
IsRejection (Compiles name mvp workers) second I line = ⊥
IsRejection (Solves name mvp nodes certificate workers) second I line = ⊥
IsRejection (Checks name certificate mvp workers) second I line = IsNotAccepted I certificate second line
IsRejection (Exports name mvp joint) second I line = ⊥
IsRejection (Extracts name solution mvp) second I line = GivesNoFlow I solution second line
IsRejection (Bounds name mvp certificate) second I line = ⊥
IsRejection (Makes seed size nodes workers) second I line = ⊥

-- the bytes of the second text are such that there is a report on the instance
abbrev pub IsFit : Request → InstanceValue → List ℕ → Type 0
IsFit (Compiles name mvp workers) I bytes = Unit {0}
IsFit (Solves name mvp nodes certificate workers) I bytes = Unit {0}
IsFit (Checks name certificate mvp workers) I bytes = IsAcceptable I bytes
IsFit (Exports name mvp joint) I bytes = Unit {0}
IsFit (Extracts name solution mvp) I bytes = GivesFlow I bytes
IsFit (Bounds name mvp certificate) I bytes = Unit {0}
IsFit (Makes seed size nodes workers) I bytes = Unit {0}

-- bytes of the second text that were read decide nothing: others may come behind them
abbrev pub IsUndecided : Request → InstanceValue → List ℕ → Type 0
IsUndecided (Compiles name mvp workers) I bytes = Unit {0}
IsUndecided (Solves name mvp nodes certificate workers) I bytes = Unit {0}
IsUndecided (Checks name certificate mvp workers) I bytes = IsUnjudged I bytes
IsUndecided (Exports name mvp joint) I bytes = Unit {0}
IsUndecided (Extracts name solution mvp) I bytes = Unit {0}
IsUndecided (Bounds name mvp certificate) I bytes = Unit {0}
IsUndecided (Makes seed size nodes workers) I bytes = Unit {0}

-- nothing is left, since a start was refused; or some first bytes of the second text were taken, and decide nothing
abbrev pub StopsUndecided : Request → InstanceValue → Told → ShelfSeen → ShelfSeen → Type 0
StopsUndecided request I second before after = LeavesNothing before after ⊎ IfSome second (λ bytes. (n : ℕ) × (after.left ≡ Some (drop n bytes)) × IsUndecided request I (take n bytes))

-- the bytes are the text of the certificate
abbrev pub IsTextOf : Option Certificate → List ℕ → Type 0
IsTextOf made bytes = IsSomeAnd made (λ certificate. bytes ≡ certificate_text_of certificate)

-- there is a text of the certificate exactly where one is asked for
abbrev pub IsTextIf : Bool → Option Certificate → Option (List ℕ) → Type 0
IsTextIf false made text = text ≡ None
IsTextIf true made text = IsSomeAnd text (IsTextOf made)

-- the bytes are the certificate that is owed beside a report with this text and the certificate of its outcome
abbrev pub IsCertificate : Request → InstanceValue → List ℕ → Option Certificate → List ℕ → Type 0
IsCertificate (Compiles name mvp workers) I text made bytes = ⊥
IsCertificate (Solves name mvp nodes certificate workers) I text made bytes = IsTextOf made bytes
IsCertificate (Checks name certificate mvp workers) I text made bytes = ⊥
IsCertificate (Exports name mvp joint) I text made bytes = ⊥
IsCertificate (Extracts name solution mvp) I text made bytes = ⊥
IsCertificate (Bounds name mvp certificate) I text made bytes = IsBoundCertificate I text bytes
IsCertificate (Makes seed size nodes workers) I text made bytes = ⊥

-- what is to be written under this name, where there is one: the certificate that is owed; else nothing
abbrev pub IsBeside : Option (List ℕ) → Request → InstanceValue → List ℕ → Option Certificate → Option (List ℕ) → Type 0
IsBeside None request I text made certificate = certificate ≡ None
IsBeside (Some name) request I text made certificate = IsSomeAnd certificate (IsCertificate request I text made)

-- no second text is both refused and such that there is a report
abbrev pub FitIsNotRejected : Type 0
FitIsNotRejected = (request : Request) (I : InstanceValue) (bytes : List ℕ) (line : Line) → IsFit request I bytes → IsRejection request (Some bytes) I line → ⊥
