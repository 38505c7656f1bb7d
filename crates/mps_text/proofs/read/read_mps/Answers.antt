use Rattle.std.proofs.Common.{Ok, ap, sym, ◌∙◌}
use Rattle.flow_model.specs.declared.programs.Program.{Program}
use Rattle.mps_text.specs.Meaning.{ends_with}
use Rattle.mps_text.proofs.Lawful.{meanings_lawful}
use Rattle.mps_text.proofs.read.read_mps.Goals as goal

pub returns-clause-lawful : goal.returns-clause-lawful
returns-clause-lawful c =
    meanings_lawful c.args.text.now c.in_ok-program.program (ap ends_with c.in_ok-read.ensures ∙ ap (λ (z : Program). Ok z) (sym c.in_ok-program.ensures))
