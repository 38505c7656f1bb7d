use Rattle.weight_vec.proofs.Orders.{at_most-before}
use Rattle.weight_vec.proofs.laws.at_most_comes_before.Goals as goal

pub returns : goal.returns
returns c = at_most-before
