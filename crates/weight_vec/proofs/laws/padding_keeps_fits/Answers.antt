use Rattle.std.proofs.Common.{arith}
use Rattle.weight_vec.proofs.Places.{get_or-padded}
use Rattle.weight_vec.proofs.laws.padding_keeps_fits.Goals as goal

pub returns : goal.returns
returns c = λ xs ys n. (
  λ padded d. omega (arith, padded d, get_or-padded xs n d, get_or-padded ys n d),
  λ bare d. omega (arith, bare d, get_or-padded xs n d, get_or-padded ys n d),
)
