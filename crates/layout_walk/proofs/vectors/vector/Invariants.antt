use Rattle.std.proofs.Common.{◌≡◌, ◌-◌, []}
use Rattle.packing_laws.specs.Places.{several, component_behind}
use Rattle.layout_walk.proofs.vectors.vector.Given as goal

abbrev pub invariant-loop-d : goal.invariant-loop-d
invariant-loop-d l = several (l.dims - l._d) component_behind l.list.items l.places ≡ several l.dims component_behind [] l.initial.places
