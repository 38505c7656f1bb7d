use Rattle.cert_laws.proofs.ExactFaults.{faults_are_exact as law}
use Rattle.cert_laws.proofs.laws.faults_are_exact.Goals as goal

pub returns : goal.returns
returns c = law
