use Rattle.weight_vec.proofs.Orders.{slice_cmp-padded}
use Rattle.weight_vec.proofs.laws.padding_keeps_order.Goals as goal

pub returns : goal.returns
returns c = slice_cmp-padded
