use Rattle.mps_text.proofs.Lawful.{meanings_lawful}
use Rattle.mps_text.proofs.laws.meanings_keep_the_rules.Goals as goal

pub returns : goal.returns
returns c = meanings_lawful
