use Rattle.cert_stream.proofs.Exact.{verdicts_are_exact}
use Rattle.cert_stream.proofs.laws.verdicts_are_exact.Goals as goal

pub returns : goal.returns
returns c = verdicts_are_exact
