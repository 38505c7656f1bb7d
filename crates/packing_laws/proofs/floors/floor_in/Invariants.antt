-- The least cost so far, with those that are left.
use Rattle.std.proofs.Common.{◌-◌, ◌*◌, map, filter, drop, slice_index, nat_lt}
use Rattle.packing_laws.specs.Floors.{div_up, material_in}
use Rattle.packing_laws.proofs.LeftOver.{IsLeftOf}
use Rattle.packing_laws.proofs.floors.floor_in.Given as goal

abbrev pub invariant-loop-bin_type : goal.invariant-loop-bin_type
invariant-loop-bin_type l =
    IsLeftOf l.least
    (map (λ t. div_up (material_in l.instance l.d * t.cost) (slice_index t.cap (l.d - 1))) (filter (λ t. nat_lt 0 (slice_index t.cap (l.d - 1))) (drop l.bin_type-index l.bin_type-items)))
    (map (λ t. div_up (material_in l.instance l.d * t.cost) (slice_index t.cap (l.d - 1))) (filter (λ t. nat_lt 0 (slice_index t.cap (l.d - 1))) l.bin_type-items))
