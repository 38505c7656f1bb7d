use Rattle.arc_program.proofs.Seconds.{fit_is_not_rejected}
use Rattle.arc_program.proofs.runs.fit_is_not_rejected.Goals as goal

pub returns : goal.returns
returns c = fit_is_not_rejected c.compiled_graphs_are_one.ensures c.verdicts_are_exact.ensures
