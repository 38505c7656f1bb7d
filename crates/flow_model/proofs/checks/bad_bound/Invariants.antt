use Rattle.std.proofs.Common.{◌≡◌, ℕ}
use Rattle.packing_laws.specs.Instances.{IsAmong}
use Rattle.flow_model.specs.Flows.{IsBounded}
use Rattle.flow_model.proofs.checks.bad_bound.Given as goal

abbrev pub invariant-loop-kind : goal.invariant-loop-kind
invariant-loop-kind l = (l.index ≡ l.kind-index) × ((k : ℕ) → IsAmong k l.kind-index → IsBounded l.instance l.graph l.flow.values k)
