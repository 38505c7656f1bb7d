-- The work of `extract` on the bytes of a solution.
use Rattle.std.specs.Prelude.{◌≡◌, ℕ, List, Some, None, Result, Ok, Err}
use Rattle.packing_laws.specs.declared.packings.Bin.{Bin}
use Rattle.packing_laws.specs.Instances.{InstanceValue}
use Rattle.packing_laws.specs.Packings.{cost_of}
use Rattle.packing_laws.specs.Printed.{bins_of}
use Rattle.arc_program.specs.declared.commands.Report.{Report}
use Rattle.arc_program.specs.declared.commands.WorkFault.{WorkFault}
use Rattle.arc_program.specs.declared.commands.WorkFault.TheVariants as work
use Rattle.arc_program.specs.declared.status.Status.TheVariants.{BadSolution}
use Rattle.arc_program.specs.Statuses.{IsReported}
use Rattle.arc_program.specs.Reports.{packing_text}
use Rattle.arc_program.specs.Kept.{IsKept}
use Rattle.arc_program.specs.commands.Extract.{IsExtracted, GivesNoFlow}

-- the text is the report on bins by their kept lines
pub record IsKeptText (I : InstanceValue) (found : List Bin) (text : List ℕ) : Type 0 where
  pub bins : List Bin
  pub kept : IsKept I found bins
  pub text_is : text ≡ packing_text (cost_of I (bins_of found)) bins

-- what the bytes of the solution under this name lead to
abbrev pub Judges : InstanceValue → List ℕ → List ℕ → Result Report WorkFault → Type 0
Judges I name bytes (Ok report) = IsReported report.status × IsExtracted I (Some bytes) report.status report.text × (report.made ≡ None) × (report.certificate ≡ None)
Judges I name bytes (Err (work.Large t)) = ⊥
Judges I name bytes (Err work.LargeJoint) = ⊥
Judges I name bytes (Err (work.Unread unread)) = ⊥
Judges I name bytes (Err (work.Rejected line status)) = (status ≡ BadSolution) × GivesNoFlow I name (Some bytes) line
Judges I name bytes (Err work.Memory) = Unit {0}
