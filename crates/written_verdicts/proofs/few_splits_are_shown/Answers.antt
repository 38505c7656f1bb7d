use Rattle.written_verdicts.proofs.ShortTexts.{few_splits_are_shown}
use Rattle.written_verdicts.proofs.few_splits_are_shown.Goals as goal

pub returns : goal.returns
returns c = few_splits_are_shown
