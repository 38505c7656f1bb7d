use Rattle.cert_laws.proofs.NeededFlows.{needs_bar_prices as law}
use Rattle.cert_laws.proofs.laws.needs_bar_prices.Goals as goal

pub returns : goal.returns
returns c = law
