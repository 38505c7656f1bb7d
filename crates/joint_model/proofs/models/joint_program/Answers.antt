use Rattle.std.proofs.Common.{◌≡◌, rules}
use Rattle.flow_model.specs.declared.programs.Program.{Program}
use Rattle.joint_model.specs.JointModels.{program_of_joint}
use Rattle.joint_model.proofs.ProgramLaws.{solves_flows, solves_packings}
use Rattle.joint_model.proofs.models.joint_program.Goals as goal

pub returns-clause-flows : goal.returns-clause-flows
returns-clause-flows c =
    let p : Program = record { objective = c.new.result; rows = c.new-2.result; columns = c.new-3.result } in
    let same : p ≡ program_of_joint c.args.instance.now c.args.graph.now = search rules in
    solves_flows c.solutions_are_flows.ensures c.args.instance.now c.args.graph.now p c.known.ensures c.known-2.ensures c.requires same

pub returns-clause-packings : goal.returns-clause-packings
returns-clause-packings c =
    let p : Program = record { objective = c.new.result; rows = c.new-2.result; columns = c.new-3.result } in
    let same : p ≡ program_of_joint c.args.instance.now c.args.graph.now = search rules in
    solves_packings c.solutions_are_flows.ensures c.packings_are_flows.ensures c.args.instance.now c.args.graph.now p c.known.ensures c.known-2.ensures c.requires same
