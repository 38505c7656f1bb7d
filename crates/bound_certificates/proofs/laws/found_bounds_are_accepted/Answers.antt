use Rattle.bound_certificates.proofs.Accepted.{found_bounds_are_accepted as law}
use Rattle.bound_certificates.proofs.laws.found_bounds_are_accepted.Goals as goal

pub returns : goal.returns
returns c = law
