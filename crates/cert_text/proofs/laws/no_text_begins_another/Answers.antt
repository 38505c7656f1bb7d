use Rattle.cert_text.proofs.Runs as runs
use Rattle.cert_text.proofs.laws.no_text_begins_another.Goals as goal

pub returns : goal.returns
returns c = runs.no_text_begins_another
