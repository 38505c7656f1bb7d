-- The greatest floor so far.
use Rattle.std.proofs.Common.{◌≡◌, ◌-◌, map}
use Rattle.packing_laws.specs.Floors.{greatest_of, numbers_to, floor_in}
use Rattle.packing_laws.proofs.floors.material_bound.Given as goal

abbrev pub invariant-loop-d : goal.invariant-loop-d
invariant-loop-d l = l.bound ≡ greatest_of (map (floor_in l.instance) (numbers_to (l.d - 1)))
