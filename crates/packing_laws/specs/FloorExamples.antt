-- Worked instances, and what the bounds of each are.
use Rattle.std.specs.Prelude.{◌≡◌, [], ◌∷◌, true, false, Some, None, map}
use Rattle.std.specs.List.{list_any}
use Rattle.packing_laws.specs.Instances.{InstanceValue, units_of, item_at}
use Rattle.packing_laws.specs.Packings.{cost_of}
use Rattle.packing_laws.specs.Floors.{material_of, floor_in, single_of, single_costs, item_fits}

-- three units of 6 in bins of 10
abbrev pub three_units_of_six : InstanceValue
three_units_of_six = record { dims = 1; types = record { cap = 10 ∷ []; cost = 1; limit = None } ∷ []; items = record { demand = 3; forms = (6 ∷ []) ∷ [] } ∷ []; caps = [] }

-- three units of 1 in bins of 2 that cost 3
abbrev pub three_halves : InstanceValue
three_halves = record { dims = 1; types = record { cap = 2 ∷ []; cost = 3; limit = None } ∷ []; items = record { demand = 3; forms = (1 ∷ []) ∷ [] } ∷ []; caps = [] }

-- a unit of 11 does not fit a bin of 10
abbrev pub one_without_place : InstanceValue
one_without_place = record { dims = 1; types = record { cap = 10 ∷ []; cost = 1; limit = None } ∷ []; items = record { demand = 1; forms = (11 ∷ []) ∷ [] } ∷ []; caps = [] }

-- two units that may lie along either dimension
abbrev pub two_turned_units : InstanceValue
two_turned_units = record { dims = 2; types = record { cap = 3 ∷ 3 ∷ []; cost = 1; limit = None } ∷ []; items = record { demand = 2; forms = (3 ∷ 0 ∷ []) ∷ (0 ∷ 3 ∷ []) ∷ [] } ∷ []; caps = [] }

-- two units of 6; of the cheaper type there is one bin
abbrev pub one_cheap_bin : InstanceValue
one_cheap_bin = record { dims = 1; types = record { cap = 10 ∷ []; cost = 1; limit = Some 1 } ∷ record { cap = 10 ∷ []; cost = 5; limit = None } ∷ []; items = record { demand = 2; forms = (6 ∷ []) ∷ [] } ∷ []; caps = [] }

-- two units of 6, and one bin
abbrev pub one_bin_alone : InstanceValue
one_bin_alone = record { dims = 1; types = record { cap = 10 ∷ []; cost = 1; limit = Some 1 } ∷ []; items = record { demand = 2; forms = (6 ∷ []) ∷ [] } ∷ []; caps = [] }

-- two dimensions, of which the last has the greater floor
abbrev pub last_is_greatest : InstanceValue
last_is_greatest = record { dims = 2; types = record { cap = 10 ∷ 10 ∷ []; cost = 1; limit = None } ∷ record { cap = 10 ∷ 20 ∷ []; cost = 1; limit = None } ∷ []; items = record { demand = 10; forms = (1 ∷ 9 ∷ []) ∷ [] } ∷ []; caps = [] }

-- a free type with room
abbrev pub one_free_type : InstanceValue
one_free_type = record { dims = 1; types = record { cap = 10 ∷ []; cost = 1; limit = None } ∷ record { cap = 10 ∷ []; cost = 0; limit = Some 1 } ∷ []; items = record { demand = 3; forms = (6 ∷ []) ∷ [] } ∷ []; caps = [] }

-- what the definitions say of them
pub record FloorsComeOut : Type 0 where
  pub six_units : units_of three_units_of_six ≡ 3
  pub six_material : material_of three_units_of_six ≡ 2
  pub six_single : single_of three_units_of_six ≡ 3
  pub half_material : material_of three_halves ≡ 5
  pub half_single : single_of three_halves ≡ 9
  pub no_place : list_any (item_fits (item_at one_without_place 1)) one_without_place.types ≡ false
  pub turned_material : material_of two_turned_units ≡ 0
  pub turned_single : single_of two_turned_units ≡ 2
  pub cheap_material : material_of one_cheap_bin ≡ 2
  pub cheap_single : single_of one_cheap_bin ≡ 10
  pub cheap_cost : cost_of one_cheap_bin ((1, []) ∷ (2, []) ∷ (0, []) ∷ (3, []) ∷ []) ≡ 6
  pub alone_material : material_of one_bin_alone ≡ 2
  pub alone_costs : single_costs one_bin_alone (item_at one_bin_alone 1) ≡ []
  pub alone_place : list_any (item_fits (item_at one_bin_alone 1)) one_bin_alone.types ≡ true
  pub last_floors : map (floor_in last_is_greatest) (1 ∷ 2 ∷ []) ≡ 1 ∷ 5 ∷ []
  pub last_material : material_of last_is_greatest ≡ 5
  pub free_material : material_of one_free_type ≡ 0
