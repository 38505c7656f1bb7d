use Rattle.mps_text.proofs.Written.{written}
use Rattle.mps_text.proofs.laws.written_is_read.Goals as goal

pub returns : goal.returns
returns c = written
