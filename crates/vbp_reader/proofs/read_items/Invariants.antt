use Rattle.std.proofs.Common.{◌≡◌, ◌-◌, [], vec_len}
use Rattle.packing_laws.specs.Places.{several}
use Rattle.packing_laws.specs.Layouts.{plain_item_behind}
use Rattle.vbp_reader.proofs.read_items.Given as goal

abbrev pub invariant-loop-i : goal.invariant-loop-i
invariant-loop-i l = record {
  length : vec_len l.items ≡ l.i;
  read : several (l.count - l.i) (plain_item_behind l.dims) l.items.items l.places ≡ several l.count (plain_item_behind l.dims) [] l.initial.places;
}
