use Rattle.std.proofs.Common.{◌≡◌, take}
use Rattle.flow_graph.specs.Arcs.{row_of}
use Rattle.flow_graph.proofs.graph.type_row.Given as goal

abbrev pub invariant-loop-arc : goal.invariant-loop-arc
invariant-loop-arc l = l.row.items ≡ row_of l.t (take l.arc-index l.arcs)
