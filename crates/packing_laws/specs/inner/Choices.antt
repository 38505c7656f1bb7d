-- Where a unit of an item goes.
use Rattle.std.specs.Prelude.{◌≡◌, ℕ, ◌-◌, ◌<◌, [], length, true, None, slice_index_or}
use Rattle.packing_laws.specs.declared.instances.BinType.{BinType}
use Rattle.packing_laws.specs.declared.instances.Item.{Item}
use Rattle.packing_laws.specs.declared.single.Choice.{Choice}
use Rattle.packing_laws.specs.Instances.{InstanceValue, IsAmong, type_at}
use Rattle.packing_laws.specs.Floors.{vector_fits, least_of, single_costs}

-- the form fits the type, which has this number, no limit and this cost
pub record IsChoiceOf (x : Item) (t : BinType) (number : ℕ) (c : Choice) : Type 0 where
  pub bin_type : c.bin_type ≡ number
  pub unlimited : t.limit ≡ None
  pub form : IsAmong c.form (length x.forms)
  pub fits : vector_fits (slice_index_or x.forms (c.form - 1) []) t.cap ≡ true
  pub cost : c.cost ≡ t.cost

-- the choice is one of a type of the instance
pub record IsChoice (I : InstanceValue) (x : Item) (c : Choice) : Type 0 where
  pub among : IsAmong c.bin_type (length I.types)
  pub of_type : IsChoiceOf x (type_at I c.bin_type) c.bin_type c

-- no type without limit that some form fits is cheaper
pub record IsCheapest (I : InstanceValue) (x : Item) (c : Choice) : Type 0 where
  pub choice : IsChoice I x c
  pub some : 0 < length (single_costs I x)
  pub least : c.cost ≡ least_of (single_costs I x)
