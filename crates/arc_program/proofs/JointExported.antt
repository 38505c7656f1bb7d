-- A model that is exported over one graph for all types, and the work of `export` over whatever graphs.
use Rattle.std.proofs.Common.{◌≡◌, ◌∙◌, ℕ, List, Bool, None, refl, ap, subst, Ok}
use Rattle.packing_laws.specs.Instances.{InstanceValue}
use Rattle.flow_model.specs.declared.programs.Program.{Program}
use Rattle.flow_model.specs.Programs.{IsProgram}
use Rattle.mps_text.specs.Laws.{WrittenIsRead}
use Rattle.mps_text.specs.Written.{mps_text_of}
use Rattle.mps_text.specs.Meaning.{mps_meaning}
use Rattle.joint_arcs.specs.Joined.{JointValue}
use Rattle.joint_arcs.specs.Faithful.{IsFaithful}
use Rattle.joint_model.specs.JointModels.{program_of_joint, SolvesAsFlows, SolvesPackings, SolutionOfPacking}
use Rattle.joint_compile.specs.JointCompiled.{IsJointGraph, IsJointSmall}
use Rattle.command_words.specs.Requests.{Exports}
use Rattle.arc_program.specs.declared.commands.Report.{Report}
use Rattle.arc_program.specs.declared.status.Status.TheVariants.{Done}
use Rattle.arc_program.specs.World.{ShelfSeen}
use Rattle.arc_program.specs.Statuses.{IsReported}
use Rattle.arc_program.specs.commands.{IsModel}
use Rattle.arc_program.specs.commands.JointExport.{IsJointExport}
use Rattle.arc_program.specs.inner.Work.{Works}

pub is_joint_export : WrittenIsRead → (I : InstanceValue) (g : JointValue) (p : Program) (text : List ℕ) → IsJointGraph I g → IsFaithful I g → IsJointSmall I → p ≡ program_of_joint I g → IsProgram p → SolvesAsFlows p I g → SolvesPackings p I g → text ≡ mps_text_of p → IsJointExport I Done text
is_joint_export written I g p text joint faithful small same lawful flows packings is = record {
  graph = g;
  joint = joint;
  small = small;
  text_is = is ∙ ap mps_text_of same;
  meaning = ap mps_meaning is ∙ (written p lawful ∙ ap (λ (q : Program). Ok q) same);
  flows = subst (λ (q : Program). SolvesAsFlows q I g) same flows;
  packings = λ bins packing filled. subst (λ (q : Program). SolutionOfPacking q I bins) same (packings faithful bins packing filled);
  status_is = refl;
}

-- a model was made, and nothing else was done
pub exported_works : (name : List ℕ) (mvp joint : Bool) (I : InstanceValue) (shelf : ShelfSeen) (report : Report) → IsReported report.status → IsModel joint I report.status report.text → report.made ≡ None → report.certificate ≡ None → Works (Exports name mvp joint) I shelf shelf (Ok report)
exported_works name mvp joint I shelf report reported model unmade alone = (reported, (model, unmade), refl, alone)
