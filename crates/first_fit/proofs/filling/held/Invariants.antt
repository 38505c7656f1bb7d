-- The units so far.
use Rattle.std.proofs.Common.{◌≡◌, take}
use Rattle.packing_laws.specs.Packings.{count_of_item}
use Rattle.first_fit.proofs.filling.held.Given as goal

abbrev pub invariant-loop-count : goal.invariant-loop-count
invariant-loop-count l = l.units ≡ count_of_item l.item (take l.count-index l.counts)
