use Rattle.written_verdicts.proofs.Placed.{written_is_shown}
use Rattle.written_verdicts.proofs.written_is_shown.Goals as goal

pub returns : goal.returns
returns c = written_is_shown
