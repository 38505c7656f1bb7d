-- A command's work on the instance that was read.
use Rattle.std.specs.Prelude.{◌≡◌, ◌⊎◌, Option, None, Some, Result, Ok, Err, string_bytes}
use Rattle.packing_laws.specs.Instances.{InstanceValue}
use Rattle.arc_compile.specs.declared.results.CompileFault.{CompileFault}
use Rattle.arc_compile.specs.declared.results.CompileFault.TheVariants as compile
use Rattle.arc_compile.specs.Graphs.{IsSmall, IsTooLarge}
use Rattle.joint_compile.specs.JointCompiled.{IsJointLarge}
use Rattle.command_words.specs.Requests.{Request, certificate_of, MakesGraphs, MakesJoint}
use Rattle.arc_program.specs.declared.commands.Report.{Report}
use Rattle.arc_program.specs.declared.commands.WorkFault.{WorkFault}
use Rattle.arc_program.specs.declared.commands.WorkFault.TheVariants as work
use Rattle.arc_program.specs.declared.status.Status.{Status}
use Rattle.arc_program.specs.World.{ShelfSeen}
use Rattle.arc_program.specs.Reading.{HasRead, HasFailed, MayHaveRead}
use Rattle.arc_program.specs.Texts.{TextValue, second_text, second_held, ReadsRefused}
use Rattle.arc_program.specs.Printing.{Line}
use Rattle.arc_program.specs.Statuses.{IsReported}
use Rattle.arc_program.specs.commands.{IsReport, IsRejection, StopsUndecided, IsBeside}

-- a fault of compiling, as a fault of a command's work
abbrev pub IsWorkFault : CompileFault → WorkFault → Type 0
IsWorkFault (compile.TooManyArcs t) fault = fault ≡ work.Large t
IsWorkFault compile.Memory fault = fault ≡ work.Memory

-- the second text was read, where the request has one; else nothing was
abbrev pub HasReadSecond : Option TextValue → ShelfSeen → ShelfSeen → Type 0
HasReadSecond None before after = after ≡ before
HasReadSecond (Some text) before after = HasRead text.name text.most before after

-- the second text is refused for the instance, with this line and this status
pub record Refuses (request : Request) (I : InstanceValue) (before after : ShelfSeen) (line : Line) (status : Status) : Type 0 where
  pub text : TextValue
  pub second : second_text request ≡ Some text
  pub refused : text.refused ≡ status
  pub small : MakesGraphs request → IsSmall I
  pub why : IsRejection request (before.held text.name) I line
  pub shelf : ReadsRefused request text.name text.most before after

-- the second text may have been read
abbrev pub MayHaveReadSecond : Request → ShelfSeen → ShelfSeen → Type 0
MayHaveReadSecond request before after = (after ≡ before) ⊎ ((text : TextValue) × (second_text request ≡ Some text) × MayHaveRead text.name text.most before after)

-- what the work on the instance gives, and what it does to the shelf
abbrev pub Works : Request → InstanceValue → ShelfSeen → ShelfSeen → Result Report WorkFault → Type 0
Works request I before after (Ok report) = IsReported report.status × IsReport request (second_held request before.held) I report.status report.text report.made × HasReadSecond (second_text request) before after × IsBeside (certificate_of request) request I report.text report.made report.certificate
Works request I before after (Err (work.Large t)) = MakesGraphs request × IsTooLarge I t × (after ≡ before)
Works request I before after (Err work.LargeJoint) = MakesJoint request × IsJointLarge I × (after ≡ before)
Works request I before after (Err (work.Unread name)) = (text : TextValue) × (second_text request ≡ Some text) × (string_bytes name ≡ text.name) × HasFailed text.name text.most before after × StopsUndecided request I (before.held text.name) before after
Works request I before after (Err (work.Rejected line status)) = Refuses request I before after line status
Works request I before after (Err work.Memory) = MayHaveReadSecond request before after
