-- The law stands among the lemmas.
use Rattle.packing_laws.proofs.WrittenUnits.{packings_fit}
use Rattle.packing_laws.proofs.laws.packings_fit.Goals as goal

pub returns : goal.returns
returns c = packings_fit
