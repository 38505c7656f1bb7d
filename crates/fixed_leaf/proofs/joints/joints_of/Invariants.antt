use Rattle.flow_graph.specs.Arcs.{IsFlowGraph}
use Rattle.flow_model.specs.Tallies.{AreStarts}
use Rattle.fixed_leaf.proofs.JointLists.{AreJointsTo}
use Rattle.fixed_leaf.proofs.joints.joints_of.Given as goal

abbrev pub invariant-loop-kind : goal.invariant-loop-kind
invariant-loop-kind l = (is : IsFlowGraph l.graph) × (are : AreStarts l.graph l.starts) × AreJointsTo l.graph is l.starts are l.kind-index l.joints l.reached
