use Rattle.arc_compile.proofs.ExtendedWeights.{extended_weights_tell_fits}
use Rattle.arc_compile.proofs.laws.extended_weights_tell_fits.Goals as goal

pub returns : goal.returns
returns c = extended_weights_tell_fits
