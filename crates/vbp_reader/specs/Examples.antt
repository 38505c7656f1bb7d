-- Texts that are worked by hand.
use Rattle.std.specs.Prelude.{ℕ, [], ◌∷◌, None, replicate, codes}
use Rattle.packing_laws.specs.Instances.{InstanceValue}
use Rattle.packing_laws.specs.Layouts.{Vbp, Reads, BadPlace}
use Rattle.packing_laws.specs.declared.fault.ReadFault.TheVariants.{Short, NotNumber, Range, ZeroWeight, Extra}
use Rattle.layout_walk.specs.SmallInstances.{one_item, capped}

-- so many dimensions, with bins of 1 in each, and no item
abbrev pub nothing_to_pack : ℕ → InstanceValue
nothing_to_pack dims = record {
  dims = dims;
  types = record { cap = replicate dims 1; cost = 1; limit = None } ∷ [];
  items = [];
  caps = [];
}

pub record ExamplesComeOut : Type 0 where
  pub three_sixes : Reads Vbp (codes "1 10 1 6 3") (one_item 10 1 6 3 [])
  pub white_space : Reads Vbp (codes " 001\t10 1\r\n6 03\r\n") (one_item 10 1 6 3 [])
  pub leading_zeros : Reads Vbp (codes "0001 01 00") (nothing_to_pack 1)
  pub empty : BadPlace Vbp [] (Short 1)
  pub after_dims : BadPlace Vbp (codes "1") (Short 2)
  pub after_capacity : BadPlace Vbp (codes "1 10") (Short 3)
  pub after_count : BadPlace Vbp (codes "1 10 1") (Short 4)
  pub after_weight : BadPlace Vbp (codes "1 10 1 6") (Short 5)
  pub extra : BadPlace Vbp (codes "1 10 1 6 3 7") (Extra 6)
  pub zero_weight : BadPlace Vbp (codes "1 10 1 0 1") (ZeroWeight 4 1 1)
  pub demand_too_great : BadPlace Vbp (codes "1 10 1 6 1000001") (Range 5)
  pub demand_with_sign : BadPlace Vbp (codes "1 10 1 6 -1") (NotNumber 5)
  pub no_dims : BadPlace Vbp (codes "0 10 0") (Range 1)
  pub nine_dims : BadPlace Vbp (codes "9") (Short 2)
  pub too_many_dims : BadPlace Vbp (codes "33") (Range 1)
  pub capacity_too_great : BadPlace Vbp (codes "1 2147483648 0") (Range 2)
  pub capacity_of_41_digits : BadPlace Vbp (codes "1 99999999999999999999999999999999999999999 0") (Range 2)
  pub dims_with_sign : BadPlace Vbp (codes "+1 10 0") (NotNumber 1)
  pub exponent : BadPlace Vbp (codes "1 1e1 0") (NotNumber 2)
  pub byte_255 : BadPlace Vbp (255 ∷ []) (NotNumber 1)
  pub too_many_items : BadPlace Vbp (codes "1 10 1001") (Range 3)
  pub capped_at_two : Reads Vbp (codes "1 10 1 2 4 caps 1 1 2") (one_item 10 1 2 4 (capped 2))
  pub no_caps : Reads Vbp (codes "1 10 1 2 4 caps 0") (one_item 10 1 2 4 [])
  pub after_word : BadPlace Vbp (codes "1 10 1 2 4 caps") (Short 7)
  pub more_caps_than_items : BadPlace Vbp (codes "1 10 1 2 4 caps 2 1 2") (Range 7)
  pub number_of_caps_with_sign : BadPlace Vbp (codes "1 10 1 2 4 caps -1") (NotNumber 7)
  pub cap_of_item_0 : BadPlace Vbp (codes "1 10 1 2 4 caps 1 0 2") (Range 8)
  pub cap_past_the_last_item : BadPlace Vbp (codes "1 10 1 2 4 caps 1 2 2") (Range 8)
  pub cap_of_0 : BadPlace Vbp (codes "1 10 1 2 4 caps 1 1 0") (Range 9)
  pub cap_too_great : BadPlace Vbp (codes "1 10 1 2 4 caps 1 1 1000001") (Range 9)
  pub caps_do_not_ascend : BadPlace Vbp (codes "1 10 2 2 4 3 4 caps 2 2 1 1 1") (Range 12)
  pub two_caps_of_one_item : BadPlace Vbp (codes "1 10 2 2 4 3 4 caps 2 1 1 1 1") (Range 12)
  pub other_word : BadPlace Vbp (codes "1 10 1 2 4 Caps 1 1 2") (Extra 6)
  pub behind_no_caps : BadPlace Vbp (codes "1 10 1 2 4 caps 0 5") (Extra 8)
  pub behind_caps : BadPlace Vbp (codes "1 10 1 2 4 caps 1 1 2 caps") (Extra 10)
  pub in_32_dims : Reads Vbp (codes "32 1 1 1 1 1 1 1 1 1 1 1 1 1 1 1 1 1 1 1 1 1 1 1 1 1 1 1 1 1 1 1 1 0 caps 0") (nothing_to_pack 32)
  pub two_caps_in_31_dims :
      BadPlace Vbp (codes "31 1 1 1 1 1 1 1 1 1 1 1 1 1 1 1 1 1 1 1 1 1 1 1 1 1 1 1 1 1 1 1 2 1 1 1 1 1 1 1 1 1 1 1 1 1 1 1 1 1 1 1 1 1 1 1 1 1 1 1 1 1 1 1 1 1 1 1 1 1 1 1 1 1 1 1 1 1 1 1 1 1 1 1 1 1 1 1 1 1 1 1 1 1 1 1 1 caps 2 1 1 2 1") (Range 99)
