use Rattle.std.proofs.Common.{◌∙◌}
use Rattle.weight_vec.proofs.Orders.{slice_cmp-plus}
use Rattle.weight_vec.proofs.laws.sums_keep_order.Goals as goal

pub returns : goal.returns
returns c = λ xs ys zs same sized before. slice_cmp-plus xs ys zs same sized ∙ before
