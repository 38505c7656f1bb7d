-- The units in the counts so far are taken.
use Rattle.std.proofs.Common.{◌≡◌, ℕ, ◌+◌, ◌-◌, ◌*◌, take, length, slice_index}
use Rattle.packing_laws.specs.Instances.{IsAmong}
use Rattle.packing_laws.specs.Packings.{count_of_item}
use Rattle.first_fit.proofs.stock.take_units.Given as goal

abbrev pub invariant-loop-count : goal.invariant-loop-count
invariant-loop-count l = (i : ℕ) → IsAmong i (length l.fn.rest) → l.times * count_of_item i (take l.count-index l.counts) + slice_index l.rest (i - 1) ≡ slice_index l.fn.rest (i - 1)
