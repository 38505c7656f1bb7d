use Rattle.std.proofs.Common.{refl}
use Rattle.std.specs.Fmt.{digits}
use Rattle.mps_text.specs.Worked.{three_units, three_units_text}
use Rattle.mps_text.proofs.Lawful.{meanings_lawful}
use Rattle.mps_text.proofs.laws.three_units_keep_the_rules.Goals as goal

pub returns : goal.returns
unfolding digits
returns c = meanings_lawful three_units_text three_units refl
