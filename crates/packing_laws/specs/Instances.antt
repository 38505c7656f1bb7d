-- What an instance is.
use Rattle.std.specs.Prelude.{◌≡◌, ℕ, ◌+◌, ◌-◌, ◌<◌, ◌≤◌, List, [], length, Option, Some, None, All, Any, sum_by, slice_index_or}
use Rattle.std.specs.List.Sorted.{IsStrictlySortedBy}
use Rattle.std.specs.Ordering.{nat_cmp}
use Rattle.std.specs.declared.cmp.Ordering.{Ordering}
use Rattle.arc_num.specs.declared.TheConstants.{MAX_DIMS, MAX_TYPES, MAX_ITEMS, MAX_FORMS, MAX_ALL_FORMS, MAX_VALUE, MAX_DEMAND, MAX_CAP}
use Rattle.packing_laws.specs.declared.instances.BinType.{BinType}
use Rattle.packing_laws.specs.declared.instances.Item.{Item}
use Rattle.packing_laws.specs.declared.instances.ItemCap.{ItemCap}

-- an instance: how many dimensions, the types of bins, the items, and the caps of items
pub record InstanceValue : Type 0 where
  pub dims : ℕ
  pub types : List BinType
  pub items : List Item
  pub caps : List ItemCap

-- the number is at least 1 and at most n
abbrev pub IsAmong : ℕ → ℕ → Type 0
IsAmong k n = (1 ≤ k) × (k ≤ n)

-- type t, by numbers from 1 (0 is read as 1); one with nothing in it where there is no such type
abbrev pub type_at : InstanceValue → ℕ → BinType
type_at I t = slice_index_or I.types (t - 1) (record { cap = []; cost = 0; limit = None })

-- item i, by numbers from 1 (0 is read as 1); one with nothing in it where there is no such item
abbrev pub item_at : InstanceValue → ℕ → Item
item_at I i = slice_index_or I.items (i - 1) (record { demand = 0; forms = [] })

-- the weight vector of form f of item i, by numbers from 1 (0 is read as 1); an empty one where there is no such form
abbrev pub form_at : InstanceValue → ℕ → ℕ → List ℕ
form_at I i f = slice_index_or (item_at I i).forms (f - 1) []

-- the demands, added up
abbrev pub units_of : InstanceValue → ℕ
units_of I = sum_by (λ x. x.demand) I.items

-- a limit of a type, where there is one, is within the limits of numbers
abbrev pub IsLimit : Option ℕ → Type 0
IsLimit None = Unit {0}
IsLimit (Some q) = q ≤ MAX_VALUE

-- a vector of n numbers within the limits
pub record IsVector (n : ℕ) (v : List ℕ) : Type 0 where
  pub size : length v ≡ n
  pub small : All (λ x. x ≤ MAX_VALUE) v

-- a type of bins in n dimensions
pub record IsBinType (n : ℕ) (t : BinType) : Type 0 where
  pub capacity : IsVector n t.cap
  pub cost : t.cost ≤ MAX_VALUE
  pub limit : IsLimit t.limit

-- a form is a vector with a number above 0
pub record IsForm (n : ℕ) (v : List ℕ) : Type 0 where
  pub vector : IsVector n v
  pub weighs : Any (λ x. 0 < x) v

-- an item in n dimensions: a demand, and at least one form
pub record IsItem (n : ℕ) (x : Item) : Type 0 where
  pub demand : x.demand ≤ MAX_DEMAND
  pub form_count : IsAmong (length x.forms) MAX_FORMS
  pub forms : All (IsForm n) x.forms

-- the cap of one of n items: at least one unit in a bin
pub record IsCap (n : ℕ) (k : ItemCap) : Type 0 where
  pub item : IsAmong k.item n
  pub count : IsAmong k.count MAX_CAP

-- the order of caps: by item
abbrev pub cap_cmp : ItemCap → ItemCap → Ordering
cap_cmp j k = nat_cmp j.item k.item

-- caps of n items in so many dimensions: dimensions and caps together are not too many, and no item has two
pub record AreCaps (dims n : ℕ) (caps : List ItemCap) : Type 0 where
  pub room : dims + length caps ≤ MAX_DIMS
  pub each : All (IsCap n) caps
  pub order : IsStrictlySortedBy cap_cmp caps

-- all numbers are within the limits, all vectors have one number for each dimension, no form is without weight, and the
-- caps are those of items that exist
pub record IsInstance (I : InstanceValue) : Type 0 where
  pub dims : IsAmong I.dims MAX_DIMS
  pub type_count : IsAmong (length I.types) MAX_TYPES
  pub types : All (IsBinType I.dims) I.types
  pub item_count : length I.items ≤ MAX_ITEMS
  pub items : All (IsItem I.dims) I.items
  pub form_count : sum_by (λ x. length x.forms) I.items ≤ MAX_ALL_FORMS
  pub caps : AreCaps I.dims (length I.items) I.caps
