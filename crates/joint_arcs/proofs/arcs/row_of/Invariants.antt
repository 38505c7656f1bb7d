use Rattle.std.proofs.Common.{◌≡◌, map}
use Rattle.flow_graph.specs.declared.parts.ArcKind.TheVariants.{Bin}
use Rattle.flow_model.specs.Flows.{up_to}
use Rattle.joint_arcs.proofs.arcs.row_of.Given as goal

abbrev pub invariant-loop-t : goal.invariant-loop-t
invariant-loop-t l = l.row.items ≡ map (λ t. Bin t) (up_to l.t)
