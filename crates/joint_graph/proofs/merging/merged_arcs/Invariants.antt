use Rattle.std.proofs.Common.{◌≡◌, take}
use Rattle.std.specs.List.{filter_map}
use Rattle.label_graph.specs.inner.Merges.{merged_arc}
use Rattle.joint_graph.proofs.merging.merged_arcs.Given as goal

abbrev pub invariant-loop-arc : goal.invariant-loop-arc
invariant-loop-arc l = l.merged.items ≡ filter_map (merged_arc l.into) (take l.arc-index l.arcs)
