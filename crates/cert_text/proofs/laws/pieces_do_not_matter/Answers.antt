use Rattle.cert_text.proofs.Runs as runs
use Rattle.cert_text.proofs.laws.pieces_do_not_matter.Goals as goal

pub returns : goal.returns
returns c = runs.pieces_do_not_matter
