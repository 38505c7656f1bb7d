-- The law stands among the lemmas.
use Rattle.packing_laws.proofs.EmptyBins.{empty_bins_can_go}
use Rattle.packing_laws.proofs.laws.empty_bins_can_go.Goals as goal

pub returns : goal.returns
returns c = empty_bins_can_go
