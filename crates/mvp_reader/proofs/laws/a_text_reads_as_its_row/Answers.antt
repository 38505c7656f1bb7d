use Rattle.mvp_reader.proofs.InstanceRows.{reads_its_row, row_is_read}
use Rattle.mvp_reader.proofs.laws.a_text_reads_as_its_row.Goals as goal

pub returns : goal.returns
returns c = λ text I. (reads_its_row text I, row_is_read text I)
