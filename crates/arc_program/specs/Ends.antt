-- How a run ends: by its status, why it ended so, what it did to the shelf, what its report on `out` is, and what it said on `err`.
use Rattle.std.specs.Prelude.{◌≡◌, ◌≢◌, ℕ, ◌⊎◌, List, Option, None, Some, IfSome, IsSomeAnd, Result, Ok, Err}
use Rattle.arc_io.specs.declared.IoFault.TheVariants as io
use Rattle.arc_io.specs.Bytes.{Told, Files}
use Rattle.arc_io.specs.Faults.{Rose}
use Rattle.packing_laws.specs.declared.fault.ReadFault.{ReadFault}
use Rattle.packing_laws.specs.Instances.{InstanceValue}
use Rattle.flow_graph.specs.Arcs.{TypeValue}
use Rattle.cert_text.specs.declared.lines.Certificate.{Certificate}
use Rattle.arc_compile.specs.Graphs.{IsSmall, IsTooLarge}
use Rattle.joint_compile.specs.JointCompiled.{IsJointLarge}
use Rattle.command_words.specs.declared.faults.WordFault.{WordFault}
use Rattle.arc_program.specs.declared.status.Status.{Status}
use Rattle.arc_program.specs.declared.status.Status.TheVariants.{Done, Bracketed, Usage, BadInstance, BadCertificate, ReadFault as ReadFaults, WriteFault, NoMemory, TooLarge, BadSolution}
use Rattle.command_words.specs.Requests.{Request}
use Rattle.arc_program.specs.World.{ShelfSeen, World}
use Rattle.arc_program.specs.Reading.{HasFailed, MayHaveRead}
use Rattle.arc_program.specs.Sources.{HasReadInstance, HasFailedInstance, MayHaveReadInstance}
use Rattle.arc_program.specs.Texts.{TextValue, second_text, second_held, ThenReads, ReadsRefused}
use Rattle.arc_program.specs.Writing.{HasFailedToWrite, MayHaveWritten, WriteRose}
use Rattle.arc_program.specs.Stored.{ThenWrites, HasDoneAll}
use Rattle.arc_program.specs.Printing.{Line, PutsOnce, PutsText, CutsOff}
use Rattle.command_words.specs.Lines.{word_fault_line}
use Rattle.arc_program.specs.Refusals.{unread_line, long_line, place_line, large_line, large_joint_line, unstored_line, output_line, memory_line}
use Rattle.command_words.specs.Requests.{name_of, certificate_of, MakesGraphs, MakesJoint}
use Rattle.arc_program.specs.Requests.{Writes, ReadsInstance, IsGiven, IsLong, IsBadAt, IsAsked, IsGood, HasNoInstance}
use Rattle.arc_program.specs.Statuses.{IsReported}
use Rattle.arc_program.specs.commands.{IsReport, IsRejection, IsFit, StopsUndecided, IsBeside}
use Rattle.arc_program.specs.commands.Extract.{IsCompiled}
use Rattle.arc_program.specs.Headline.{GrantsEnough}

-- the text is a report that is owed for the instance that is asked about, and for the second text; this is the status of a run
-- that prints it, `made` is the certificate of an outcome that it tells, and `certificate` is what is to be written beside it
pub record IsOwed (request : Request) (shelf : ShelfSeen) (status : Status) (text : List ℕ) (made : Option Certificate) (certificate : Option (List ℕ)) : Type 0 where
  pub instance : InstanceValue
  pub given : IsGiven request shelf.held instance
  pub report : IsReport request (second_held request shelf.held) instance status text made
  pub beside : IsBeside (certificate_of request) request instance text made certificate

-- the certificate was written, where one is asked for, the report was taken whole, and nothing was said
pub record Reports (request : Request) (before after : World) (made : Option Certificate) (status : Status) : Type 0 where
  pub text : List ℕ
  pub certificate : Option (List ℕ)
  pub owed : IsOwed request before.shelf status text made certificate
  pub shelf : HasDoneAll request certificate before.shelf after.shelf
  pub printed : PutsText text before.out after.out
  pub silent : after.err ≡ before.err

-- the line says why the bytes are no instance: there are too many, or they have a first bad place
abbrev pub SaysWhy : Request → Told → Line → Type 0
SaysWhy request held line =
    ((line ≡ long_line (name_of request)) × IfSome held IsLong)
    ⊎ ((fault : ReadFault) × (line ≡ place_line (name_of request) fault) × IfSome held (λ bytes. IsBadAt request bytes fault))

-- the bytes are no instance; nothing was printed, and why was said
pub record RefusesBytes (request : Request) (before after : World) : Type 0 where
  pub line : Line
  pub reads : ReadsInstance request
  pub why : SaysWhy request (before.shelf.held (name_of request)) line
  pub shelf : HasReadInstance request before.shelf after.shelf
  pub unprinted : after.out ≡ before.out
  pub said : PutsOnce line before.err after.err

-- the graphs are too large; nothing was printed, and the first type that is too much was said
pub record RefusesGraphs (request : Request) (before after : World) : Type 0 where
  pub makes : MakesGraphs request
  pub instance : InstanceValue
  pub given : IsGiven request before.shelf.held instance
  pub t : ℕ
  pub large : IsTooLarge instance t
  pub shelf : HasReadInstance request before.shelf after.shelf
  pub unprinted : after.out ≡ before.out
  pub said : PutsOnce (large_line (name_of request) t) before.err after.err

-- the graph for all types is too large; nothing was printed, and that was said
pub record RefusesJoint (request : Request) (before after : World) : Type 0 where
  pub makes : MakesJoint request
  pub instance : InstanceValue
  pub given : IsGiven request before.shelf.held instance
  pub large : IsJointLarge instance
  pub shelf : HasReadInstance request before.shelf after.shelf
  pub unprinted : after.out ≡ before.out
  pub said : PutsOnce (large_joint_line (name_of request)) before.err after.err

-- the line says why the second text is refused for the instance that was read, which is small where graphs are made of it
pub record IsOwedRejection (request : Request) (text : TextValue) (shelf : ShelfSeen) (line : Line) : Type 0 where
  pub instance : InstanceValue
  pub given : IsGiven request shelf.held instance
  pub small : MakesGraphs request → IsSmall instance
  pub why : IsRejection request (shelf.held text.name) instance line

-- the second text is refused with this status; nothing was printed, and why was said
pub record RefusesSecond (request : Request) (before after : World) (status : Status) : Type 0 where
  pub text : TextValue
  pub refused : text.refused ≡ status
  pub line : Line
  pub owed : IsOwedRejection request text before.shelf line
  pub shelf : ThenReads request text (ReadsRefused request) before.shelf after.shelf
  pub unprinted : after.out ≡ before.out
  pub said : PutsOnce line before.err after.err

-- the instance was read, and a read of the second text failed, before what was taken of this text decided anything
pub record FailsSecond (request : Request) (text : TextValue) (before after : ShelfSeen) : Type 0 where
  pub instance : InstanceValue
  pub given : IsGiven request before.held instance
  pub reads : ThenReads request text HasFailed before after
  pub undecided : StopsUndecided request instance (before.held text.name) reads.between after

-- a read of the text under this name failed: of the instance, or of the second text behind it
abbrev pub FailsAt : Request → List ℕ → ShelfSeen → ShelfSeen → Type 0
FailsAt request name before after =
    ((name ≡ name_of request) × HasFailedInstance request before after)
    ⊎ ((text : TextValue) × (name ≡ text.name) × FailsSecond request text before after)

-- a read failed; nothing was printed, and the name that could not be read was said
pub record CannotRead (request : Request) (before after : World) : Type 0 where
  pub name : List ℕ
  pub shelf : FailsAt request name before.shelf after.shelf
  pub unprinted : after.out ≡ before.out
  pub said : PutsOnce (unread_line name) before.err after.err

-- the certificate could not be written; nothing was printed, and its name was said
pub record CannotStore (request : Request) (before after : World) : Type 0 where
  pub text : List ℕ
  pub status : Status
  pub made : Option Certificate
  pub certificate : Option (List ℕ)
  pub owed : IsOwed request before.shelf status text made certificate
  pub shelf : ThenWrites request certificate HasFailedToWrite before.shelf after.shelf
  pub unprinted : after.out ≡ before.out
  pub said : PutsOnce (unstored_line shelf.name) before.err after.err

-- the report was cut off by a put of `out` that failed, and that was said
pub record CannotPrint (request : Request) (before after : World) : Type 0 where
  pub text : List ℕ
  pub status : Status
  pub made : Option Certificate
  pub certificate : Option (List ℕ)
  pub owed : IsOwed request before.shelf status text made certificate
  pub shelf : HasDoneAll request certificate before.shelf after.shelf
  pub printed : CutsOff io.Failed text before.out after.out
  pub said : PutsOnce output_line before.err after.err

-- the certificate or the report could not be written
abbrev pub CannotWrite : Request → World → World → Type 0
CannotWrite request before after = CannotStore request before after ⊎ CannotPrint request before after

-- the report was cut off by a put of `out` that found no memory
pub record Starves (request : Request) (before after : World) : Type 0 where
  pub text : List ℕ
  pub status : Status
  pub made : Option Certificate
  pub certificate : Option (List ℕ)
  pub owed : IsOwed request before.shelf status text made certificate
  pub shelf : HasDoneAll request certificate before.shelf after.shelf
  pub printed : CutsOff io.Memory text before.out after.out

-- the instance may have been read, or it was, and the second text may have been
abbrev pub MayHaveReadAll : Request → ShelfSeen → ShelfSeen → Type 0
MayHaveReadAll request before after =
    MayHaveReadInstance request before after
    ⊎ ((text : TextValue) × ThenReads request text MayHaveRead before after)

-- all texts were read, and some of the certificate that is owed was written, maybe none
pub record MayHaveStored (request : Request) (before after : ShelfSeen) : Type 0 where
  pub text : List ℕ
  pub status : Status
  pub made : Option Certificate
  pub certificate : Option (List ℕ)
  pub owed : IsOwed request before status text made certificate
  pub shelf : ThenWrites request certificate MayHaveWritten before after

-- the texts may have been read, and the certificate may have been written
abbrev pub MayHaveDoneAll : Request → ShelfSeen → ShelfSeen → Type 0
MayHaveDoneAll request before after = MayHaveReadAll request before after ⊎ MayHaveStored request before after

-- memory was wanting, and that was said; nothing was printed, but where `out` itself found none
pub record LacksMemory (request : Request) (before after : World) : Type 0 where
  pub shelf : MayHaveDoneAll request before.shelf after.shelf
  pub printed : (after.out ≡ before.out) ⊎ Starves request before after
  pub said : PutsOnce memory_line before.err after.err

-- how a run ends that is asked for something, and leaves this certificate
abbrev pub Answers : Request → World → World → Option Certificate → Status → Type 0
Answers request before after made Done = Reports request before after made Done
Answers request before after made Bracketed = Reports request before after made Bracketed
Answers request before after made Usage = ⊥
Answers request before after made BadInstance = RefusesBytes request before after
Answers request before after made BadCertificate = RefusesSecond request before after BadCertificate
Answers request before after made ReadFaults = CannotRead request before after
Answers request before after made WriteFault = CannotWrite request before after
Answers request before after made NoMemory = LacksMemory request before after
Answers request before after made TooLarge = RefusesGraphs request before after ⊎ RefusesJoint request before after
Answers request before after made BadSolution = RefusesSecond request before after BadSolution

-- how a run ends whose words have this fault: it says so, or lacks memory; nothing is read and nothing printed
pub record RefusesWords (fault : WordFault) (before after : World) (status : Status) : Type 0 where
  pub shelf : after.shelf ≡ before.shelf
  pub unprinted : after.out ≡ before.out
  pub said : ((status ≡ Usage) × PutsOnce (word_fault_line fault) before.err after.err) ⊎ ((status ≡ NoMemory) × PutsOnce memory_line before.err after.err)

-- how a run ends, by what the words ask for
abbrev pub Ends : Result Request WordFault → World → World → Option Certificate → Status → Type 0
Ends (Ok request) before after made status = Answers request before after made status
Ends (Err fault) before after made status = RefusesWords fault before after status

-- no certificate is left, unless the report was taken whole
abbrev pub LeavesNone : Option Certificate → Status → Type 0
LeavesNone made status = IsReported status ⊎ (made ≡ None)

-- what is written on the shelf is what is asked for
abbrev pub KeepsTo : Result Request WordFault → ShelfSeen → ShelfSeen → Type 0
KeepsTo (Ok request) before after = Writes request before after
KeepsTo (Err fault) before after = after ≡ before

-- the status, unless a read failed or memory was wanting
abbrev pub ComesOut : Status → Status → Type 0
ComesOut expected status = (status ≡ expected) ⊎ ((status ≡ ReadFaults) ⊎ (status ≡ NoMemory))

-- the bytes of the second text are told, and are refused for the instance
abbrev pub IsRejected : Request → Told → InstanceValue → Type 0
IsRejected request second I = IsSomeAnd second (λ bytes. (line : Line) × IsRejection request (Some bytes) I line)

-- where there is a second text, its bytes are told, and such that there is a report
abbrev pub HasFit : Request → Files → InstanceValue → Option TextValue → Type 0
HasFit request held I None = Unit {0}
HasFit request held I (Some text) = IsSomeAnd (held text.name) (IsFit request I)

-- what the instance that is asked about must lead to, and the bytes under the names
pub record MustEnd (request : Request) (before after : World) (status : Status) : Type 0 where
  pub refused : HasNoInstance request before.shelf.held → ComesOut BadInstance status
  pub large : (I : InstanceValue) (t : ℕ) → MakesGraphs request → IsAsked request before.shelf.held I → IsTooLarge I t → ComesOut TooLarge status
  pub joint : (I : InstanceValue) → MakesJoint request → IsAsked request before.shelf.held I → IsJointLarge I → ComesOut TooLarge status
  pub rejected : (I : InstanceValue) (text : TextValue) → second_text request ≡ Some text → IsGood request before.shelf.held I → IsRejected request (before.shelf.held text.name) I → ComesOut text.refused status
  pub accepted : (I : InstanceValue) → IsGood request before.shelf.held I → HasFit request before.shelf.held I (second_text request) → ¬ Rose before.shelf.read_faults after.shelf.read_faults → ¬ WriteRose (certificate_of request) before.shelf after.shelf → ¬ Rose before.out.faults after.out.faults → IsReported status ⊎ (status ≡ NoMemory)
  pub settled : (I : InstanceValue) (g : List TypeValue) → IsAsked request before.shelf.held I → IsCompiled I g → GrantsEnough request I g → status ≢ Bracketed

-- each cause is seen: a fault of the words, and that of the instance that is asked about; nothing else comes where there is an instance and
-- nothing failed, and no bracket where the splits that are granted are enough
abbrev pub IsExact : Result Request WordFault → World → World → Status → Type 0
IsExact (Ok request) before after status = MustEnd request before after status
IsExact (Err fault) before after status = (status ≡ Usage) ⊎ (status ≡ NoMemory)
