use Rattle.cert_text.proofs.Texts.{placed_is}
use Rattle.cert_text.proofs.reader.placed.Goals as goal

pub returns : goal.returns
returns c = placed_is c.line_of.result c.args.text.now c.args.read c.args.version c.args.is_ended c.requires c.if-is_ended.false c.line_of.ensures
