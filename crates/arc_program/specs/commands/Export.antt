-- What `export` owes: the model of the instance, and what its solutions are worth.
use Rattle.std.specs.Prelude.{◌≡◌, ℕ, ◌<◌, List, Ok, pos, All}
use Rattle.packing_laws.specs.Instances.{InstanceValue}
use Rattle.packing_laws.specs.Packings.{Bins, IsPacking, cost_of}
use Rattle.packing_laws.specs.Printed.{units_in}
use Rattle.flow_graph.specs.Arcs.{TypeValue}
use Rattle.flow_model.specs.declared.programs.Program.{Program}
use Rattle.flow_model.specs.Programs.{IsSolution, objective_of}
use Rattle.flow_model.specs.Models.{program_of_model}
use Rattle.mps_text.specs.Written.{mps_text_of}
use Rattle.mps_text.specs.Meaning.{mps_meaning}
use Rattle.arc_compile.specs.declared.results.TypeSize.{TypeSize}
use Rattle.arc_compile.specs.Compiled.{AreCompiled}
use Rattle.arc_compile.specs.Graphs.{IsSmall}
use Rattle.arc_program.specs.declared.status.Status.{Status}
use Rattle.arc_program.specs.declared.status.Status.TheVariants.{Done}

-- a solution of a program whose objective is what some bins cost
pub record HasSolution (I : InstanceValue) (p : Program) (bins : Bins) : Type 0 where
  pub values : List ℕ
  pub solution : IsSolution p values
  pub objective : objective_of p values ≡ pos (cost_of I bins)

-- a packing that costs what the objective is at a solution of a program
pub record HasPacking (I : InstanceValue) (p : Program) (values : List ℕ) : Type 0 where
  pub bins : Bins
  pub packing : IsPacking I bins
  pub objective : objective_of p values ≡ pos (cost_of I bins)

-- the text is that of the program of the instance over its numbered arcs, and means this program; each packing without
-- empty bins is worth a solution of it, and each solution a packing, at equal cost
pub record IsExport (I : InstanceValue) (status : Status) (text : List ℕ) : Type 0 where
  pub graph : List TypeValue
  pub sizes : List TypeSize
  pub are_compiled : AreCompiled I graph sizes
  pub small : IsSmall I
  pub text_is : text ≡ mps_text_of (program_of_model I graph)
  pub meaning : mps_meaning text ≡ Ok (program_of_model I graph)
  pub packings : (bins : Bins) → IsPacking I bins → All (λ b. 0 < units_in b.1) bins → HasSolution I (program_of_model I graph) bins
  pub solutions : (values : List ℕ) → IsSolution (program_of_model I graph) values → HasPacking I (program_of_model I graph) values
  pub status_is : status ≡ Done
