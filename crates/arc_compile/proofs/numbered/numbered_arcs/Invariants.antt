use Rattle.std.proofs.Common.{◌≡◌, take, map}
use Rattle.arc_compile.specs.Compiled.{type_arc}
use Rattle.arc_compile.proofs.numbered.numbered_arcs.Given as goal

abbrev pub invariant-loop-arc : goal.invariant-loop-arc
invariant-loop-arc g l = l.numbered.items ≡ map (type_arc l.pieces) (take l.arc-index l.arcs)
