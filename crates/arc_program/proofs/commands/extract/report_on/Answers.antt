use Rattle.std.proofs.Common.{refl, None}
use Rattle.arc_program.specs.declared.status.Status.TheVariants.{Done}
use Rattle.arc_program.proofs.Extracted.{judges_packing}
use Rattle.arc_program.proofs.commands.extract.report_on.Goals as goal

pub returns : goal.returns
returns c =
    judges_packing c.args.instance.now c.args.solution.now c.args.text.now c.args.compiled.now.graph (c.args.compiled.now.sizes, c.requires.compiled) c.requires.length c.in-Ok.flow.values c.in-Ok.ensures.meaning c.requires.small c.in-Ok-extract.packing c.in_ok-text.text.items c.in-Ok-extract.ensures c.in_ok-text.ensures (record { text = c.new.result; status = Done; made = None; certificate = None }) refl c.new.ensures refl refl
