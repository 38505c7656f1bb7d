-- The law stands among the lemmas.
use Rattle.step_bounds.proofs.Stepped.{counts_keep_within}
use Rattle.step_bounds.proofs.laws.counts_keep_within.Goals as goal

pub returns : goal.returns
returns c = counts_keep_within
