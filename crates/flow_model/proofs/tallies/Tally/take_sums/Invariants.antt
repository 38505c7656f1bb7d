use Rattle.std.proofs.Common.{◌≡◌, ◌*◌, ◌^◌, take}
use Rattle.flow_model.specs.inner.Sums.{HasShapeOf, AreBelow, Holds}
use Rattle.flow_model.proofs.tallies.Tally.take_sums.Given as goal

abbrev pub invariant-loop-kind : goal.invariant-loop-kind
invariant-loop-kind l = (l.index ≡ l.kind-index) × HasShapeOf l.fn.self l.self × AreBelow (l.kind-index * 2 ^ 64) l.self × Holds (take l.kind-index l.row) (take l.kind-index l.values) l.self
