-- A model that is exported, and what its solutions are worth.
use Rattle.std.proofs.Common.{◌≡◌, ◌∙◌, ◌<◌, ℕ, List, refl, ap, sym, pos, Ok}
use Rattle.std.specs.Prelude.{All}
use Rattle.packing_laws.specs.Instances.{InstanceValue, IsInstance}
use Rattle.packing_laws.specs.Packings.{Bins, IsPacking}
use Rattle.packing_laws.specs.Printed.{units_in}
use Rattle.flow_graph.specs.Arcs.{TypeValue, IsFlowGraph}
use Rattle.flow_graph.specs.Faithful.{IsFaithful}
use Rattle.flow_model.specs.declared.programs.Program.{Program}
use Rattle.flow_model.specs.Programs.{IsProgram, IsSolution}
use Rattle.flow_model.specs.Models.{program_of_model, SolutionsAreFlows}
use Rattle.flow_model.specs.Packed.{PackingsAreFlows}
use Rattle.pattern_extract.specs.Worth.{FlowsArePackings}
use Rattle.mps_text.specs.Laws.{WrittenIsRead}
use Rattle.mps_text.specs.Written.{mps_text_of}
use Rattle.mps_text.specs.Meaning.{mps_meaning}
use Rattle.arc_compile.specs.declared.results.TypeSize.{TypeSize}
use Rattle.arc_compile.specs.Compiled.{AreCompiled}
use Rattle.arc_compile.specs.Graphs.{IsSmall}
use Rattle.arc_program.specs.declared.status.Status.TheVariants.{Done}
use Rattle.arc_program.specs.commands.Export.{HasSolution, HasPacking, IsExport}

module _ (I : InstanceValue) (g : List TypeValue) (known : IsInstance I) (graph : IsFlowGraph g) (faithful : IsFaithful I g) where
  -- a packing without empty bins is worth a solution
  packing_solved : SolutionsAreFlows → PackingsAreFlows → (bins : Bins) → IsPacking I bins → All (λ b. 0 < units_in b.1) bins → HasSolution I (program_of_model I g) bins
  packing_solved solutions packings bins packing filled =
      let flow = packings I g bins known graph faithful packing filled in
      record {
        values = flow.values;
        solution = (solutions.solutions I g flow.values known graph faithful.graph).1 flow.flow;
        objective = solutions.objective I g flow.values ∙ ap pos flow.cost;
      }

  -- a solution is worth a packing
  solution_packed : SolutionsAreFlows → FlowsArePackings → (values : List ℕ) → IsSolution (program_of_model I g) values → HasPacking I (program_of_model I g) values
  solution_packed solutions flows values solved =
      let worth = flows I g values known graph faithful ((solutions.solutions I g values known graph faithful.graph).0 solved) in
      record {
        bins = worth.bins;
        packing = worth.packing;
        objective = solutions.objective I g values ∙ ap pos (sym worth.cost);
      }

  pub is_export : SolutionsAreFlows → PackingsAreFlows → FlowsArePackings → WrittenIsRead → (sizes : List TypeSize) (p : Program) (text : List ℕ) → AreCompiled I g sizes → IsSmall I → p ≡ program_of_model I g → IsProgram p → text ≡ mps_text_of p → IsExport I Done text
  is_export solutions packings flows written sizes p text compiled small same lawful is = record {
    graph = g;
    sizes = sizes;
    are_compiled = compiled;
    small = small;
    text_is = is ∙ ap mps_text_of same;
    meaning = ap mps_meaning is ∙ (written p lawful ∙ ap (λ (q : Program). Ok q) same);
    packings = packing_solved solutions packings;
    solutions = solution_packed solutions flows;
    status_is = refl;
  }
