use Rattle.std.proofs.Common.{◌∙◌}
use Rattle.arc_program.proofs.Exported.{is_export}
use Rattle.arc_program.proofs.commands.export.model_report.Goals as goal

pub returns-clause-text : goal.returns-clause-text
returns-clause-text c =
    is_export c.args.instance.now c.args.compiled.now.graph c.known.ensures c.known-2.ensures c.requires.faithful c.solutions_are_flows.ensures c.packings_are_flows.ensures c.flows_are_packings.ensures c.written_is_read.ensures c.args.compiled.now.sizes c.in_ok-program.program c.new-text.result c.requires.compiled c.requires.small c.in_ok-program.ensures.value c.in_ok-program.ensures.lawful (c.new-text.ensures ∙ c.in_ok-write_mps.ensures)
