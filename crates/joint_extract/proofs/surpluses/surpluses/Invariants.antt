use Rattle.flow_model.specs.Flows.{carries}
use Rattle.joint_arcs.specs.Flows.{total_of}
use Rattle.pattern_extract.proofs.Surplus.{IsSurplusSoFar}
use Rattle.joint_extract.proofs.surpluses.surpluses.Given as goal

abbrev pub invariant-loop-place : goal.invariant-loop-place
invariant-loop-place l = IsSurplusSoFar l.instance (λ i. total_of (carries i) l.graph l.values) l.place l.units
