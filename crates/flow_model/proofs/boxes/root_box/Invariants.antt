use Rattle.std.proofs.Common.{◌≡◌, take, map}
use Rattle.flow_model.specs.Boxes.{root_range}
use Rattle.flow_model.proofs.boxes.root_box.Given as goal

abbrev pub invariant-loop-kind : goal.invariant-loop-kind
invariant-loop-kind l = l.ranges.items ≡ map (root_range l.instance) (take l.kind-index l.row)
