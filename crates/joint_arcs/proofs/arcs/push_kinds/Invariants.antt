use Rattle.std.proofs.Common.{◌≡◌, ◌++◌, map, take}
use Rattle.flow_graph.specs.Arcs.{kind_of}
use Rattle.joint_arcs.proofs.arcs.push_kinds.Given as goal

abbrev pub invariant-loop-arc : goal.invariant-loop-arc
invariant-loop-arc l = l.row.items ≡ l.initial.row.items ++ map (kind_of 1) (take l.arc-index l.arcs)
