use Rattle.cert_laws.proofs.Certified.{certified_is_so as law}
use Rattle.cert_laws.proofs.laws.certified_is_so.Goals as goal

pub returns : goal.returns
returns c = law
