-- Texts that are worked by hand.
use Rattle.std.specs.Prelude.{ℕ, [], ◌∷◌, Some, None, replicate, codes}
use Rattle.packing_laws.specs.Instances.{InstanceValue}
use Rattle.packing_laws.specs.Layouts.{Mvp, Reads, BadPlace}
use Rattle.packing_laws.specs.declared.fault.ReadFault.TheVariants.{Short, NotNumber, Range, ZeroWeight, Extra}
use Rattle.layout_walk.specs.SmallInstances.{one_item, capped}

-- in two dimensions: two types, the first of which is limited, and one item of two forms, of which a bin may hold two units
abbrev pub two_types : InstanceValue
two_types = record {
  dims = 2;
  types = record { cap = 10 ∷ 5 ∷ []; cost = 4; limit = Some 2 } ∷ record { cap = 0 ∷ 7 ∷ []; cost = 0; limit = None } ∷ [];
  items = record { demand = 3; forms = (6 ∷ 0 ∷ []) ∷ (0 ∷ 2 ∷ []) ∷ [] } ∷ [];
  caps = capped 2;
}

-- so many dimensions, with bins of 1 in each, and no item
abbrev pub nothing_to_pack : ℕ → InstanceValue
nothing_to_pack dims = record {
  dims = dims;
  types = record { cap = replicate dims 1; cost = 3; limit = None } ∷ [];
  items = [];
  caps = [];
}

pub record ExamplesComeOut : Type 0 where
  pub one : Reads Mvp (codes "1 1 2 3 -1 1 1 1 1") (one_item 2 3 1 1 [])
  pub two : Reads Mvp (codes "2 2\n10 5 4 2\n0 7 0 -1\n1\n2 3 6 0 0 2\ncaps 1 1 2\n") two_types
  pub empty : BadPlace Mvp [] (Short 1)
  pub after_weight : BadPlace Mvp (codes "1 1 2 3 -1 1 1 1") (Short 9)
  pub extra : BadPlace Mvp (codes "1 1 2 3 -1 1 1 1 1 1") (Extra 10)
  pub cost_without_number : BadPlace Mvp (codes "1 1 2 -1 -1 1 1 3 1") (NotNumber 4)
  pub no_limit_in_place_of_a_cost : BadPlace Mvp (codes "1 1 5 -1") (NotNumber 4)
  pub no_limit_with_a_zero : BadPlace Mvp (codes "1 1 5 1 -01") (NotNumber 5)
  pub no_types : BadPlace Mvp (codes "1 0") (Range 2)
  pub no_forms : BadPlace Mvp (codes "1 1 5 1 -1 1 0 1") (Range 7)
  pub too_many_forms_for_one_item : BadPlace Mvp (codes "1 1 5 1 -1 1 65") (Range 7)
  pub second_form_is_zero : BadPlace Mvp (codes "2 1 5 5 1 -1 1 2 1 1 0 0 0") (ZeroWeight 13 1 2)
  pub too_many_dims : BadPlace Mvp (codes "33") (Range 1)
  pub no_caps : Reads Mvp (codes "1 1 2 3 -1 1 1 1 1 caps 0") (one_item 2 3 1 1 [])
  pub after_word : BadPlace Mvp (codes "1 1 2 3 -1 1 1 1 1 caps") (Short 11)
  pub more_caps_than_items : BadPlace Mvp (codes "1 1 2 3 -1 1 1 1 1 caps 2 1 1") (Range 11)
  pub no_limit_in_place_of_a_cap : BadPlace Mvp (codes "1 1 2 3 -1 1 1 1 1 caps 1 1 -1") (NotNumber 13)
  pub cap_of_0 : BadPlace Mvp (codes "1 1 2 3 -1 1 1 1 1 caps 1 1 0") (Range 13)
  pub caps_do_not_ascend : BadPlace Mvp (codes "1 1 2 3 -1 2 1 1 1 1 1 1 caps 2 2 1 1 1") (Range 17)
  pub other_word : BadPlace Mvp (codes "1 1 2 3 -1 1 1 1 1 Caps 1 1 1") (Extra 10)
  pub behind_no_caps : BadPlace Mvp (codes "1 1 2 3 -1 1 1 1 1 caps 0 5") (Extra 12)
  pub in_32_dims : Reads Mvp (codes "32 1 1 1 1 1 1 1 1 1 1 1 1 1 1 1 1 1 1 1 1 1 1 1 1 1 1 1 1 1 1 1 1 1 3 -1 0 caps 0") (nothing_to_pack 32)
  pub two_caps_in_31_dims : BadPlace Mvp (codes "31 1 1 1 1 1 1 1 1 1 1 1 1 1 1 1 1 1 1 1 1 1 1 1 1 1 1 1 1 1 1 1 1 3 -1 2 1 1 1 1 1 1 1 1 1 1 1 1 1 1 1 1 1 1 1 1 1 1 1 1 1 1 1 1 1 1 1 1 1 1 1 1 1 1 1 1 1 1 1 1 1 1 1 1 1 1 1 1 1 1 1 1 1 1 1 1 1 1 1 1 1 1 caps 2 1 1 2 1") (Range 104)
