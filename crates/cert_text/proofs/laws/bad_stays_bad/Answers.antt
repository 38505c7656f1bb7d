use Rattle.cert_text.proofs.Lengths as runs
use Rattle.cert_text.proofs.laws.bad_stays_bad.Goals as goal

pub returns : goal.returns
returns c = runs.bad_stays_bad
