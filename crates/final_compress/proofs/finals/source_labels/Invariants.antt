use Rattle.std.proofs.Common.{length, take}
use Rattle.final_compress.proofs.Arriving.{AreBrought}
use Rattle.final_compress.proofs.finals.source_labels.Given as goal

abbrev pub invariant-loop-arc : goal.invariant-loop-arc
invariant-loop-arc g l = AreBrought l.graph.pieces (take l.arc-index l.graph.arcs) (length l.graph.labels) l.labels.items
