-- The law stands among the lemmas.
use Rattle.packing_laws.proofs.laws.no_place_no_packing.Goals as goal
use Rattle.packing_laws.proofs.PackedItems.{no_place_no_packing}

pub returns : goal.returns
returns c = no_place_no_packing
