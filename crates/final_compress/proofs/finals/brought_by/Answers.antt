use Rattle.std.proofs.Common.{sym}
use Rattle.final_compress.proofs.Arriving.{plus-none}
use Rattle.final_compress.proofs.finals.brought_by.Goals as goal

pub returns-in-Loss : goal.returns-in-Loss
returns-in-Loss g c = rw c.in-Loss.is (sym (plus-none c.args.before.now))
