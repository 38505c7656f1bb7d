-- The law stands among the lemmas.
use Rattle.packing_laws.proofs.SingleLaw.{single_is_reached}
use Rattle.packing_laws.proofs.laws.single_is_reached.Goals as goal

pub returns : goal.returns
returns c = single_is_reached
