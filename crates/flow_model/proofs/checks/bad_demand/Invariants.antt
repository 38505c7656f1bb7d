use Rattle.std.proofs.Common.{◌≡◌, ℕ}
use Rattle.packing_laws.specs.Instances.{IsAmong}
use Rattle.flow_model.specs.Flows.{IsServed}
use Rattle.flow_model.proofs.checks.bad_demand.Given as goal

abbrev pub invariant-loop-item : goal.invariant-loop-item
invariant-loop-item l = (l.index ≡ l.item-index) × ((k : ℕ) → IsAmong k l.item-index → IsServed l.instance l.graph l.flow.values k)
