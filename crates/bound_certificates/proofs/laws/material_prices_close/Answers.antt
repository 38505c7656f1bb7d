use Rattle.bound_certificates.proofs.MaterialCloses.{material_prices_close as law}
use Rattle.bound_certificates.proofs.laws.material_prices_close.Goals as goal

pub returns : goal.returns
returns c = law
