use Rattle.std.proofs.Common.{length, drop}
use Rattle.main_compress.proofs.Onward.{AreLeft}
use Rattle.main_compress.proofs.mains.target_labels.Given as goal

abbrev pub invariant-loop-index : goal.invariant-loop-index
invariant-loop-index g l = AreLeft l.cap l.graph.pieces (drop l.index l.graph.arcs) (length l.graph.labels) l.labels.items
