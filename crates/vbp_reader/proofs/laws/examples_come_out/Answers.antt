use Rattle.std.proofs.Common.{refl}
use Rattle.packing_laws.specs.Places.{next_number, next_vector, next_form, caps_word, end_at}
use Rattle.packing_laws.specs.Layouts.{next_plain_item, next_cap, caps_at, plain_instance_at}
use Rattle.vbp_reader.proofs.laws.examples_come_out.Goals as goal

pub returns : goal.returns
unfolding next_number next_vector next_form caps_word end_at next_plain_item next_cap caps_at plain_instance_at
returns c = record {
  three_sixes = refl;
  white_space = refl;
  leading_zeros = refl;
  empty = refl;
  after_dims = refl;
  after_capacity = refl;
  after_count = refl;
  after_weight = refl;
  extra = refl;
  zero_weight = refl;
  demand_too_great = refl;
  demand_with_sign = refl;
  no_dims = refl;
  nine_dims = refl;
  too_many_dims = refl;
  capacity_too_great = refl;
  capacity_of_41_digits = refl;
  dims_with_sign = refl;
  exponent = refl;
  byte_255 = refl;
  too_many_items = refl;
  capped_at_two = refl;
  no_caps = refl;
  after_word = refl;
  more_caps_than_items = refl;
  number_of_caps_with_sign = refl;
  cap_of_item_0 = refl;
  cap_past_the_last_item = refl;
  cap_of_0 = refl;
  cap_too_great = refl;
  caps_do_not_ascend = refl;
  two_caps_of_one_item = refl;
  other_word = refl;
  behind_no_caps = refl;
  behind_caps = refl;
  in_32_dims = refl;
  two_caps_in_31_dims = refl;
}
