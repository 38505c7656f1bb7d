use Rattle.joint_flows.proofs.SumRows.{AreEven}
use Rattle.joint_flows.proofs.checks.bad_node.Given as goal

abbrev pub invariant-loop-index : goal.invariant-loop-index
invariant-loop-index l = AreEven l.sums l.index
