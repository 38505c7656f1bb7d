use Rattle.arc_num.proofs.ReadBack.{decimal_reads_back}
use Rattle.arc_num.proofs.decimals.decimals_read_back.Goals as goal

pub returns : goal.returns
returns c = decimal_reads_back
