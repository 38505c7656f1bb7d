use Rattle.std.proofs.Common.{◌≡◌, take}
use Rattle.label_graph.proofs.images.numbered.Given as goal

abbrev pub invariant-loop-label : goal.invariant-loop-label
invariant-loop-label g l = l.numbers.keys ≡ take l.label-index l.distinct
