use Rattle.mps_text.proofs.GivenWhole.{meanings_given}
use Rattle.mps_text.proofs.laws.meanings_are_given.Goals as goal

pub returns : goal.returns
returns c = meanings_given
