use Rattle.std.proofs.Common.{◌≡◌, map, take}
use Rattle.std.specs.List.{enumerate_from}
use Rattle.joint_model.specs.JointModels.{arc_column}
use Rattle.joint_model.proofs.models.columns.Given as goal

abbrev pub invariant-loop-kind : goal.invariant-loop-kind
invariant-loop-kind l = (l.number ≡ l.kind-index) × (l.columns.items ≡ map (arc_column l.instance l.graph) (enumerate_from 1 (take l.kind-index l.row)))
