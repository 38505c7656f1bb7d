use Rattle.std.proofs.Common.{refl}
use Rattle.packing_laws.specs.Places.{next_number, next_limit, next_vector, next_form, caps_word, end_at}
use Rattle.packing_laws.specs.Layouts.{next_form_count, next_item, next_type, next_cap, caps_at, instance_at}
use Rattle.mvp_reader.proofs.laws.examples_come_out.Goals as goal

pub returns : goal.returns
unfolding next_number next_limit next_vector next_form caps_word end_at next_form_count next_item next_type next_cap caps_at instance_at
returns c = record {
  one = refl;
  two = refl;
  empty = refl;
  after_weight = refl;
  extra = refl;
  cost_without_number = refl;
  no_limit_in_place_of_a_cost = refl;
  no_limit_with_a_zero = refl;
  no_types = refl;
  no_forms = refl;
  too_many_forms_for_one_item = refl;
  second_form_is_zero = refl;
  too_many_dims = refl;
  no_caps = refl;
  after_word = refl;
  more_caps_than_items = refl;
  no_limit_in_place_of_a_cap = refl;
  cap_of_0 = refl;
  caps_do_not_ascend = refl;
  other_word = refl;
  behind_no_caps = refl;
  in_32_dims = refl;
  two_caps_in_31_dims = refl;
}
