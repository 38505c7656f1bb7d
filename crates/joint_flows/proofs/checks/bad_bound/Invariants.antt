use Rattle.joint_flows.proofs.SumRows.{AreBounded}
use Rattle.joint_flows.proofs.checks.bad_bound.Given as goal

abbrev pub invariant-loop-index : goal.invariant-loop-index
invariant-loop-index l = AreBounded l.instance l.graph l.values l.index
