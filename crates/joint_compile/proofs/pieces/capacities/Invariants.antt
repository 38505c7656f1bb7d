use Rattle.std.proofs.Common.{◌≡◌, map}
use Rattle.flow_model.specs.Flows.{up_to}
use Rattle.arc_compile.specs.Extended.{extended_capacity}
use Rattle.arc_compile.specs.Pieces.{padded}
use Rattle.joint_compile.proofs.pieces.capacities.Given as goal

abbrev pub invariant-loop-t : goal.invariant-loop-t
invariant-loop-t g l = l.caps.items ≡ map (λ t. padded g.row.N (extended_capacity l.instance t)) (up_to l.t)
