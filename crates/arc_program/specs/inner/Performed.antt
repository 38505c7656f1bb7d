-- What was done when a run has still to say what it refuses.
use Rattle.std.specs.Prelude.{◌≡◌, ℕ, ◌⊎◌, List, Option, IfSome, Result, Ok, Err, string_bytes}
use Rattle.arc_io.specs.declared.IoFault.{IoFault}
use Rattle.arc_io.specs.declared.IoFault.TheVariants as io
use Rattle.packing_laws.specs.Instances.{InstanceValue}
use Rattle.cert_text.specs.declared.lines.Certificate.{Certificate}
use Rattle.arc_compile.specs.Graphs.{IsTooLarge}
use Rattle.joint_compile.specs.JointCompiled.{IsJointLarge}
use Rattle.arc_program.specs.declared.performing.Finished.{Finished}
use Rattle.command_words.specs.declared.faults.WordFault.{WordFault}
use Rattle.arc_program.specs.declared.refusals.Refusal.{Refusal}
use Rattle.arc_program.specs.declared.refusals.Refusal.TheVariants.{Words, Unread, Long, BadPlace, Large, LargeJoint, Rejected, Unstored, Unwritten, Memory}
use Rattle.arc_program.specs.declared.status.Status.{Status}
use Rattle.arc_program.specs.declared.status.Status.TheVariants.{NoMemory}
use Rattle.command_words.specs.Requests.{Request}
use Rattle.arc_program.specs.World.{ShelfSeen, SinkSeen}
use Rattle.arc_program.specs.Sources.{HasReadInstance}
use Rattle.arc_program.specs.Texts.{TextValue, ThenReads, ReadsRefused}
use Rattle.arc_program.specs.Writing.{HasFailedToWrite}
use Rattle.arc_program.specs.Stored.{ThenWrites, HasDoneAll}
use Rattle.arc_program.specs.Printing.{Line, PutsOnce, PutsText, CutsOff}
use Rattle.arc_program.specs.Refusals.{refusal_line, refusal_status, memory_line}
use Rattle.command_words.specs.Requests.{name_of, MakesGraphs, MakesJoint}
use Rattle.arc_program.specs.Requests.{ReadsInstance, IsGiven, IsLong, IsBadAt}
use Rattle.arc_program.specs.Statuses.{IsReported}
use Rattle.arc_program.specs.Ends.{IsOwed, IsOwedRejection, FailsAt, MayHaveDoneAll}

-- a report was cut off by a put with this fault
pub record IsCut (fault : IoFault) (request : Request) (before after : ShelfSeen) (old new : SinkSeen) : Type 0 where
  pub text : List ℕ
  pub status : Status
  pub made : Option Certificate
  pub certificate : Option (List ℕ)
  pub owed : IsOwed request before status text made certificate
  pub shelf : HasDoneAll request certificate before after
  pub printed : CutsOff fault text old new

-- a report was taken whole
pub record IsPrinted (request : Request) (before after : ShelfSeen) (old new : SinkSeen) (made : Option Certificate) (status : Status) : Type 0 where
  pub text : List ℕ
  pub certificate : Option (List ℕ)
  pub owed : IsOwed request before status text made certificate
  pub shelf : HasDoneAll request certificate before after
  pub printed : PutsText text old new

-- the certificate that is owed could not be written under this name
pub record IsUnstored (request : Request) (before after : ShelfSeen) (name : List ℕ) : Type 0 where
  pub text : List ℕ
  pub status : Status
  pub made : Option Certificate
  pub certificate : Option (List ℕ)
  pub owed : IsOwed request before status text made certificate
  pub shelf : ThenWrites request certificate HasFailedToWrite before after
  pub named : name ≡ shelf.name

-- the graphs of the instance that was read are too large from type t on
pub record IsLargeRead (request : Request) (before : ShelfSeen) (t : ℕ) : Type 0 where
  pub makes : MakesGraphs request
  pub instance : InstanceValue
  pub given : IsGiven request before.held instance
  pub large : IsTooLarge instance t

-- the graph for all types of the instance that was read is too large
pub record IsLargeJointRead (request : Request) (before : ShelfSeen) : Type 0 where
  pub makes : MakesJoint request
  pub instance : InstanceValue
  pub given : IsGiven request before.held instance
  pub large : IsJointLarge instance

-- the second text is refused
pub record IsRejectedRead (request : Request) (before after : ShelfSeen) (line : Line) (status : Status) : Type 0 where
  pub text : TextValue
  pub refused : text.refused ≡ status
  pub owed : IsOwedRejection request text before line
  pub shelf : ThenReads request text (ReadsRefused request) before after

-- what was done for a request: a report was printed, or there is a refusal
abbrev pub CarriesOut : Request → ShelfSeen → ShelfSeen → SinkSeen → SinkSeen → Result Finished Refusal → Type 0
CarriesOut request before after old new (Ok finished) = IsReported finished.status × IsPrinted request before after old new finished.made finished.status
CarriesOut request before after old new (Err (Words fault)) = ⊥
CarriesOut request before after old new (Err (Unread name)) = FailsAt request (string_bytes name) before after × (new ≡ old)
CarriesOut request before after old new (Err (Long name)) = (string_bytes name ≡ name_of request) × ReadsInstance request × IfSome (before.held (name_of request)) IsLong × HasReadInstance request before after × (new ≡ old)
CarriesOut request before after old new (Err (BadPlace name fault)) = (string_bytes name ≡ name_of request) × ReadsInstance request × IfSome (before.held (name_of request)) (λ bytes. IsBadAt request bytes fault) × HasReadInstance request before after × (new ≡ old)
CarriesOut request before after old new (Err (Large name t)) = (string_bytes name ≡ name_of request) × IsLargeRead request before t × HasReadInstance request before after × (new ≡ old)
CarriesOut request before after old new (Err (LargeJoint name)) = (string_bytes name ≡ name_of request) × IsLargeJointRead request before × HasReadInstance request before after × (new ≡ old)
CarriesOut request before after old new (Err (Rejected line status)) = IsRejectedRead request before after line status × (new ≡ old)
CarriesOut request before after old new (Err (Unstored name)) = IsUnstored request before after (string_bytes name) × (new ≡ old)
CarriesOut request before after old new (Err Unwritten) = IsCut io.Failed request before after old new
CarriesOut request before after old new (Err Memory) = MayHaveDoneAll request before after × ((new ≡ old) ⊎ IsCut io.Memory request before after old new)

-- what was done for words that have a fault: nothing
abbrev pub HasNothingDone : WordFault → Result Finished Refusal → Type 0
HasNothingDone fault (Ok finished) = ⊥
HasNothingDone fault (Err (Words refused)) = fault ≡ refused
HasNothingDone fault (Err (Unread name)) = ⊥
HasNothingDone fault (Err (Long name)) = ⊥
HasNothingDone fault (Err (BadPlace name place)) = ⊥
HasNothingDone fault (Err (Large name t)) = ⊥
HasNothingDone fault (Err (LargeJoint name)) = ⊥
HasNothingDone fault (Err (Rejected line status)) = ⊥
HasNothingDone fault (Err (Unstored name)) = ⊥
HasNothingDone fault (Err Unwritten) = ⊥
HasNothingDone fault (Err Memory) = Unit {0}

-- what was done for the words
abbrev pub Performs : Result Request WordFault → ShelfSeen → ShelfSeen → SinkSeen → SinkSeen → Result Finished Refusal → Type 0
Performs (Ok request) before after old new done = CarriesOut request before after old new done
Performs (Err fault) before after old new done = (after ≡ before) × (new ≡ old) × HasNothingDone fault done

-- the refusal was said, with its status; or no memory was left for its line, and that was said
abbrev pub IsSaid : Refusal → Status → SinkSeen → SinkSeen → Type 0
IsSaid refusal status before after =
    ((status ≡ refusal_status refusal) × PutsOnce (refusal_line refusal) before after)
    ⊎ ((status ≡ NoMemory) × PutsOnce memory_line before after)
