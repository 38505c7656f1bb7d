use Rattle.std.proofs.Common.{◌≡◌, ◌-◌, [], vec_len}
use Rattle.packing_laws.specs.Places.{several}
use Rattle.packing_laws.specs.Layouts.{form_behind}
use Rattle.mvp_reader.proofs.read_forms.Given as goal

abbrev pub invariant-loop-f : goal.invariant-loop-f
invariant-loop-f l = record {
  length : vec_len l.forms ≡ l.f;
  read : several (l.count - l.f) (form_behind l.dims l.item) l.forms.items l.places ≡ several l.count (form_behind l.dims l.item) [] l.initial.places;
}
