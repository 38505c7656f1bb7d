use Rattle.vbp_reader.proofs.PlainNumbers.{reads_its_numbers, numbers_are_read}
use Rattle.vbp_reader.proofs.laws.a_text_reads_as_its_numbers.Goals as goal

pub returns : goal.returns
returns c = λ text I. (reads_its_numbers text I, numbers_are_read text I)
