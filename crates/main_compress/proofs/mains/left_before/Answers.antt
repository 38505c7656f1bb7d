use Rattle.std.proofs.Common.{sym}
use Rattle.main_compress.proofs.Onward.{minus-none}
use Rattle.main_compress.proofs.mains.left_before.Goals as goal

pub returns-in-Loss : goal.returns-in-Loss
returns-in-Loss g c = rw c.in-Loss.is (sym (minus-none c.args.behind.now))
