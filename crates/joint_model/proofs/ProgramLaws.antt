-- What a program that is that of a joint graph is good for.
use Rattle.std.proofs.Common.{◌≡◌, ◌∙◌, sym, ap, subst, pos}
use Rattle.packing_laws.specs.Instances.{InstanceValue, IsInstance}
use Rattle.flow_model.specs.declared.programs.Program.{Program}
use Rattle.joint_arcs.specs.Joined.{JointValue, IsJoint}
use Rattle.joint_arcs.specs.Faithful.{GraphOf}
use Rattle.joint_flows.specs.Packed.{PackingsAreFlows}
use Rattle.joint_model.specs.JointModels.{SolutionsAreFlows, SolvesAsFlows, SolvesPackings, program_of_joint}

pub solves_flows : SolutionsAreFlows → (I : InstanceValue) (g : JointValue) (p : Program) → IsInstance I → IsJoint g → GraphOf I g → p ≡ program_of_joint I g → SolvesAsFlows p I g
solves_flows law I g p instance graph of same = subst (λ (q : Program). SolvesAsFlows q I g) (sym same) (law I g instance graph of)

model_packs : SolutionsAreFlows → PackingsAreFlows → (I : InstanceValue) (g : JointValue) → IsInstance I → IsJoint g → GraphOf I g → SolvesPackings (program_of_joint I g) I g
model_packs law packed I g instance graph of faithful bins packing filled =
    let solves : SolvesAsFlows (program_of_joint I g) I g = law I g instance graph of in
    let found = packed I g bins instance graph faithful packing filled in
    record {
      values = found.values;
      solution = (solves.solutions found.values).1 found.flow;
      cost = solves.objective found.values ∙ ap pos found.cost;
    }

pub solves_packings : SolutionsAreFlows → PackingsAreFlows → (I : InstanceValue) (g : JointValue) (p : Program) → IsInstance I → IsJoint g → GraphOf I g → p ≡ program_of_joint I g → SolvesPackings p I g
solves_packings law packed I g p instance graph of same = subst (λ (q : Program). SolvesPackings q I g) (sym same) (model_packs law packed I g instance graph of)
