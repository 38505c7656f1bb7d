use Rattle.std.proofs.Common.{◌≡◌, ◌-◌, []}
use Rattle.packing_laws.specs.Places.{several}
use Rattle.packing_laws.specs.Layouts.{type_behind}
use Rattle.mvp_reader.proofs.read_types.Given as goal

abbrev pub invariant-loop-t : goal.invariant-loop-t
invariant-loop-t l = several (l.count - l._t) (type_behind l.dims) l.types.items l.places ≡ several l.count (type_behind l.dims) [] l.initial.places
