use Rattle.cert_text.proofs.Runs as runs
use Rattle.cert_text.proofs.laws.lines_have_one_spelling.Goals as goal

pub returns : goal.returns
returns c = runs.lines_have_one_spelling
