use Rattle.std.proofs.Common.{◌≤◌, length}
use Rattle.level_graph.proofs.LayerSteps.{Growing}
use Rattle.level_graph.proofs.layers.layer_of.Given as goal

abbrev pub invariant-loop-index : goal.invariant-loop-index
invariant-loop-index g l = (l.index ≤ length l.layer.items) × Growing l.number l.piece l.cap l.entering l.layer.items l.index
