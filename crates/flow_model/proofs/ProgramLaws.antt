-- What a program that is that of a model is good for.
use Rattle.std.proofs.Common.{◌≡◌, ◌∙◌, ℕ, List, sym, ap, subst, pos}
use Rattle.packing_laws.specs.Instances.{InstanceValue, IsInstance}
use Rattle.flow_graph.specs.Arcs.{TypeValue, IsFlowGraph}
use Rattle.flow_graph.specs.Faithful.{GraphOf}
use Rattle.flow_model.specs.declared.programs.Program.{Program}
use Rattle.flow_model.specs.Models.{SolutionsAreFlows, program_of_model}
use Rattle.flow_model.specs.Packed.{PackingsAreFlows, SolvesAsFlows, SolvesPackings}

pub model_solves : SolutionsAreFlows → (I : InstanceValue) (g : List TypeValue) → IsInstance I → IsFlowGraph g → GraphOf I g → SolvesAsFlows (program_of_model I g) I g
model_solves law I g instance graph of = record { solutions = λ values. law.solutions I g values instance graph of; objective = λ values. law.objective I g values }

pub model_packs : SolutionsAreFlows → PackingsAreFlows → (I : InstanceValue) (g : List TypeValue) → IsInstance I → IsFlowGraph g → GraphOf I g → SolvesPackings (program_of_model I g) I g
model_packs law packed I g instance graph of faithful bins packing filled =
    let found = packed I g bins instance graph faithful packing filled in
    record {
      values = found.values;
      solution = (law.solutions I g found.values instance graph of).1 found.flow;
      cost = law.objective I g found.values ∙ ap pos found.cost;
      sum = found.sum;
    }

pub solves_flows : SolutionsAreFlows → (I : InstanceValue) (g : List TypeValue) (p : Program) → IsInstance I → IsFlowGraph g → GraphOf I g → p ≡ program_of_model I g → SolvesAsFlows p I g
solves_flows law I g p instance graph of same = subst (λ (q : Program). SolvesAsFlows q I g) (sym same) (model_solves law I g instance graph of)

pub solves_packings : SolutionsAreFlows → PackingsAreFlows → (I : InstanceValue) (g : List TypeValue) (p : Program) → IsInstance I → IsFlowGraph g → GraphOf I g → p ≡ program_of_model I g → SolvesPackings p I g
solves_packings law packed I g p instance graph of same = subst (λ (q : Program). SolvesPackings q I g) (sym same) (model_packs law packed I g instance graph of)
