use Rattle.std.proofs.Common.{take}
use Rattle.final_compress.proofs.Arriving.{AreBrought}
use Rattle.joint_graph.specs.Joints.{node_count}
use Rattle.joint_graph.proofs.arriving.ways_to.Given as goal

abbrev pub invariant-loop-arc : goal.invariant-loop-arc
invariant-loop-arc g l = AreBrought l.graph.pieces (take l.arc-index l.graph.arcs) (node_count l.graph) l.weights.items
