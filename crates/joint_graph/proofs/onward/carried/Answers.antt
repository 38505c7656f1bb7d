use Rattle.std.proofs.Common.{sym}
use Rattle.final_compress.proofs.Arriving.{plus-none}
use Rattle.joint_graph.proofs.onward.carried.Goals as goal

pub returns-in-Loss : goal.returns-in-Loss
returns-in-Loss g c = rw c.in-Loss.is (sym (plus-none c.args.weight.now))
