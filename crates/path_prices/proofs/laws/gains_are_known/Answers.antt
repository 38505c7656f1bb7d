use Rattle.path_prices.proofs.GainLaws.{gains-known}
use Rattle.path_prices.proofs.laws.gains_are_known.Goals as goal

pub returns : goal.returns
returns c = gains-known
