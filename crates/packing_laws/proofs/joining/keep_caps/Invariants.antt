-- The caps so far are kept.
use Rattle.std.proofs.Common.{◌+◌, ◌≤◌, All, take}
use Rattle.packing_laws.specs.Packings.{count_of_item}
use Rattle.packing_laws.proofs.joining.keep_caps.Given as goal

abbrev pub invariant-loop-cap : goal.invariant-loop-cap
invariant-loop-cap l = All (λ k. count_of_item k.item l.first + count_of_item k.item l.second ≤ k.count) (take l.cap-index l.caps)
