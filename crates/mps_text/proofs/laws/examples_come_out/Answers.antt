-- Each row computes.
use Rattle.std.proofs.Common.{refl}
use Rattle.std.specs.Fmt.{digits}
use Rattle.mps_text.proofs.laws.examples_come_out.Goals as goal

pub returns : goal.returns
unfolding digits
returns c = record {
  written = refl;
  read = refl;
  fixed = refl;
  bounded = refl;
  no_column = refl;
  empty = refl;
  end_missing = refl;
  name_missing = refl;
  name_twice = refl;
  unknown_heading = refl;
  heading_not_alone = refl;
  before_rows = refl;
  no_objective = refl;
  behind_the_end = refl;
  row_fields = refl;
  column_fields = refl;
  mark_word = refl;
  right_fields = refl;
  bound_fields = refl;
  row_kind = refl;
  second_objective = refl;
  opened_twice = refl;
  still_open = refl;
  bound_kind = refl;
  row_twice = refl;
  name_of_mark = refl;
  byte_above_tilde = refl;
  column_parted = refl;
  outside_the_marks = refl;
  no_such_row = refl;
  objective_right = refl;
  no_such_column = refl;
  no_value = refl;
  plus_sign = refl;
  value_too_great = refl;
  negative_bound = refl;
  entry_twice = refl;
  entry_twice_in_line = refl;
  right_twice = refl;
  bound_twice = refl;
  fixed_beside_upper = refl;
  lower_beside_fixed = refl;
  no_upper_bound = refl;
  lower_above_upper = refl;
  no_bounds = refl;
}
