use Rattle.std.proofs.Common.{ℕ}
use Rattle.packing_laws.specs.Instances.{IsAmong}
use Rattle.flow_model.specs.Flows.{IsConserved}
use Rattle.flow_model.proofs.checks.bad_node_of.Given as goal

abbrev pub invariant-loop-index : goal.invariant-loop-index
invariant-loop-index l = (k : ℕ) → IsAmong k l.index → IsConserved l.graph l.flow.values l.t k
