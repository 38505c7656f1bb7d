use Rattle.std.proofs.Common.{◌≡◌, ◌+◌, ℕ, drop}
use Rattle.packing_laws.specs.Instances.{IsAmong}
use Rattle.flow_model.specs.Flows.{carries, weigh_arcs}
use Rattle.pattern_extract.specs.Trims.{surplus_at}
use Rattle.pattern_extract.proofs.Places.{one_if}
use Rattle.pattern_extract.proofs.units.carried_units.Given as goal

abbrev pub invariant-loop-place : goal.invariant-loop-place
invariant-loop-place l = (i : ℕ) → IsAmong i l.count → surplus_at l.units i + weigh_arcs (one_if (carries i)) (drop l.place l.row) (drop l.place l.values) ≡ weigh_arcs (one_if (carries i)) l.row l.values
