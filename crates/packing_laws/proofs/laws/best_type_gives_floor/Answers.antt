-- The law stands among the lemmas.
use Rattle.packing_laws.proofs.laws.best_type_gives_floor.Goals as goal
use Rattle.packing_laws.proofs.BestType.{best_gives_floor}

pub returns : goal.returns
returns c = best_gives_floor
