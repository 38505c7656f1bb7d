-- What `export` owes with `--joint`: the model of the instance over one graph for all types, and what its solutions are worth.
use Rattle.std.specs.Prelude.{◌≡◌, ℕ, ◌<◌, List, Ok, All}
use Rattle.packing_laws.specs.Instances.{InstanceValue}
use Rattle.packing_laws.specs.Packings.{Bins, IsPacking}
use Rattle.packing_laws.specs.Printed.{units_in}
use Rattle.mps_text.specs.Written.{mps_text_of}
use Rattle.mps_text.specs.Meaning.{mps_meaning}
use Rattle.joint_arcs.specs.Joined.{JointValue}
use Rattle.joint_model.specs.JointModels.{program_of_joint, SolvesAsFlows, SolutionOfPacking}
use Rattle.joint_compile.specs.JointCompiled.{IsJointGraph, IsJointSmall}
use Rattle.arc_program.specs.declared.status.Status.{Status}
use Rattle.arc_program.specs.declared.status.Status.TheVariants.{Done}

-- the text is that of the program of the instance over its joint graph, and means this program; its solutions are the flows of
-- the graph, at equal cost, and each packing without empty bins is worth one
pub record IsJointExport (I : InstanceValue) (status : Status) (text : List ℕ) : Type 0 where
  pub graph : JointValue
  pub joint : IsJointGraph I graph
  pub small : IsJointSmall I
  pub text_is : text ≡ mps_text_of (program_of_joint I graph)
  pub meaning : mps_meaning text ≡ Ok (program_of_joint I graph)
  pub flows : SolvesAsFlows (program_of_joint I graph) I graph
  pub packings : (bins : Bins) → IsPacking I bins → All (λ b. 0 < units_in b.1) bins → SolutionOfPacking (program_of_joint I graph) I bins
  pub status_is : status ≡ Done
