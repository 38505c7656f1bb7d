use Rattle.text_lines.proofs.Splits.{first_field_cut}
use Rattle.text_lines.proofs.fields.next_field.Goals as goal

pub returns : goal.returns
returns c = first_field_cut c.args.line.now c.start.result c.end-end.result c.start.ensures.at c.start.ensures.within c.end-end.ensures.at c.end-end.ensures.within
