use Rattle.joint_flows.proofs.SumRows.{AreMet}
use Rattle.joint_flows.proofs.checks.bad_demand.Given as goal

abbrev pub invariant-loop-index : goal.invariant-loop-index
invariant-loop-index l = AreMet l.instance l.sums l.index
