-- What the two fields of a line say: a column, and a value.
use Rattle.std.specs.Prelude.{ℕ, zero, suc, ◌+◌, ◌^◌, Bool, ◌&&◌, ◌==◌, nat_le, if◌then◌else◌, List, map, take, drop, Option, Some, None, option_and_then, codes, bytes_eq}
use Rattle.std.specs.List.{list_all, enumerate_from, position_or_len}
use Rattle.arc_num.specs.Decimals.{are_digits, value_of}
use Rattle.flow_graph.specs.Arcs.{TypeValue, numbered}
use Rattle.flow_model.specs.Models.{arc_name}

-- the names of the columns of a graph: one for each arc, by number
abbrev pub column_names : List TypeValue → List (List ℕ)
column_names g = map (λ arc. arc_name arc.0 arc.1) (enumerate_from 1 (numbered g))

abbrev pub is_point : ℕ → Bool
is_point b = b == 46

abbrev pub is_zero : ℕ → Bool
is_zero b = b == 48

-- what stands before the first point of a field, and what stands behind it
abbrev pub whole_part : List ℕ → List ℕ
whole_part field = take (position_or_len is_point field) field

abbrev pub fraction : List ℕ → List ℕ
fraction field = drop (position_or_len is_point field + 1) field

-- a size: digits, of value at most 2^62, and behind them nothing, or a point and any number of zeros
abbrev pub size_in : List ℕ → Option ℕ
size_in field =
    if are_digits (whole_part field) && (list_all is_zero (fraction field) && nat_le (value_of (whole_part field)) (2 ^ 62))
    then Some (value_of (whole_part field)) else None

-- a number where it is 0
abbrev pub zero_alone : ℕ → Option ℕ
zero_alone zero = Some 0
zero_alone (suc n) = None

-- a value: a size, or a minus sign and the size 0
abbrev pub value_in : List ℕ → Option ℕ
value_in field = if bytes_eq (take 1 field) (codes "-") then option_and_then zero_alone (size_in (drop 1 field)) else size_in field
