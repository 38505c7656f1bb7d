use Rattle.std.proofs.Common.{◌∙◌}
use Rattle.arc_program.proofs.JointExported.{is_joint_export}
use Rattle.arc_program.proofs.commands.joint_export.model_report.Goals as goal

pub returns-clause-text : goal.returns-clause-text
returns-clause-text c =
    is_joint_export c.written_is_read.ensures c.args.instance.now c.args.graph.now c.in_ok-program.program c.new-text.result c.requires.joint c.requires.faithful c.requires.small c.in_ok-program.ensures.value c.in_ok-program.ensures.lawful c.in_ok-program.ensures.flows c.in_ok-program.ensures.packings (c.new-text.ensures ∙ c.in_ok-write_mps.ensures)
