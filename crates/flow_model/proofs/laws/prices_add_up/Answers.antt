use Rattle.flow_model.proofs.PriceSums.{prices_add_up as add}
use Rattle.flow_model.proofs.laws.prices_add_up.Goals as goal

pub returns : goal.returns
returns c = add
