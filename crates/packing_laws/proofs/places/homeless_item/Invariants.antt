-- The items so far have places.
use Rattle.std.proofs.Common.{◌≡◌, ℕ, ◌<◌, true}
use Rattle.std.specs.List.{list_any}
use Rattle.packing_laws.specs.Instances.{IsAmong, item_at}
use Rattle.packing_laws.specs.Floors.{item_fits}
use Rattle.packing_laws.proofs.places.homeless_item.Given as goal

abbrev pub invariant-loop-at : goal.invariant-loop-at
invariant-loop-at l = (j : ℕ) → IsAmong j l.at → 0 < (item_at l.instance j).demand → list_any (item_fits (item_at l.instance j)) l.types ≡ true
