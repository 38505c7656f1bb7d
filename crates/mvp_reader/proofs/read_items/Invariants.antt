use Rattle.std.proofs.Common.{◌≡◌, ◌≤◌, ◌-◌, [], vec_len}
use Rattle.arc_num.specs.declared.TheConstants.{MAX_ALL_FORMS}
use Rattle.packing_laws.specs.Places.{several}
use Rattle.packing_laws.specs.Layouts.{item_behind, forms_of}
use Rattle.mvp_reader.proofs.read_items.Given as goal

abbrev pub invariant-loop-i : goal.invariant-loop-i
invariant-loop-i l = record {
  length : vec_len l.items ≡ l.i;
  forms : forms_of l.items.items ≡ l.forms;
  within : l.forms ≤ MAX_ALL_FORMS;
  read : several (l.count - l.i) (item_behind l.dims) l.items.items l.places ≡ several l.count (item_behind l.dims) [] l.initial.places;
}
