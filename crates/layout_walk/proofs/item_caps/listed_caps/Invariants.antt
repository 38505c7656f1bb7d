use Rattle.std.proofs.Common.{◌≡◌, ◌≤◌, ◌-◌, []}
use Rattle.packing_laws.specs.Places.{several}
use Rattle.packing_laws.specs.Layouts.{cap_behind, last_item}
use Rattle.arc_num.specs.declared.TheConstants.{MAX_ITEMS}
use Rattle.layout_walk.proofs.item_caps.listed_caps.Given as goal

abbrev pub invariant-loop-k : goal.invariant-loop-k
invariant-loop-k l = record {
  last : last_item l.caps.items ≡ l.last;
  within : l.last ≤ MAX_ITEMS;
  read : several (l.count - l._k) (cap_behind l.items) l.caps.items l.places ≡ several l.count (cap_behind l.items) [] l.initial.places;
}
