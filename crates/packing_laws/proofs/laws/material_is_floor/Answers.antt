-- The law stands among the lemmas.
use Rattle.packing_laws.proofs.laws.material_is_floor.Goals as goal
use Rattle.packing_laws.proofs.MaterialLaw.{floor_is-le}

pub returns : goal.returns
returns c = floor_is-le
