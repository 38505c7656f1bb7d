-- Costs that no packing goes below, and a cost that one packing has.
use Rattle.std.specs.Prelude.{zero, suc, ◌≡◌, ℕ, ◌+◌, ◌-◌, ◌*◌, ◌/◌, ◌<◌, ◌≤◌, List, [], ◌∷◌, length, Bool, true, false, map, filter, All, is_none, ◌&&◌, min, max, sum_by, nat_lt, nat_le, slice_index}
use Rattle.std.specs.List.{list_all, list_any, zip}
use Rattle.packing_laws.specs.declared.instances.BinType.{BinType}
use Rattle.packing_laws.specs.declared.instances.Item.{Item}
use Rattle.packing_laws.specs.Instances.{InstanceValue, IsInstance, IsAmong, type_at, item_at}
use Rattle.packing_laws.specs.Packings.{Bins, IsPacking, IsFloor, HasNoPacking, cost_of}

-- the least of some numbers, 0 where there are none
abbrev pub least_of : List ℕ → ℕ
least_of [] = 0
least_of (x ∷ []) = x
least_of (x ∷ y ∷ ys) = min x (least_of (y ∷ ys))

-- the greatest of some numbers, 0 where there are none
abbrev pub greatest_of : List ℕ → ℕ
greatest_of [] = 0
greatest_of (x ∷ xs) = max x (greatest_of xs)

-- the numbers from 1 to n, downwards
abbrev pub numbers_to : ℕ → List ℕ
numbers_to zero = []
numbers_to (suc n) = suc n ∷ numbers_to n

-- a / b, rounded up
abbrev pub div_up : ℕ → ℕ → ℕ
div_up a b = (a + (b - 1)) / b

-- what all units weigh at least in dimension d, each in its lightest form there
abbrev pub material_in : InstanceValue → ℕ → ℕ
material_in I d = sum_by (λ x. x.demand * least_of (map (λ v. slice_index v (d - 1)) x.forms)) I.items

-- the least cost at which bins of one type alone, taken in parts, would hold that much in dimension d: it is the
-- type with the most room for its cost. 0 where no type has room there, or one has it for nothing
abbrev pub floor_in : InstanceValue → ℕ → ℕ
floor_in I d = least_of (map (λ t. div_up (material_in I d * t.cost) (slice_index t.cap (d - 1))) (filter (λ t. nat_lt 0 (slice_index t.cap (d - 1))) I.types))

-- the material bound: the greatest of these costs over the dimensions
abbrev pub material_of : InstanceValue → ℕ
material_of I = greatest_of (map (floor_in I) (numbers_to I.dims))

-- no number of the vector passes that of the capacity
abbrev pub vector_fits : List ℕ → List ℕ → Bool
vector_fits v cap = list_all (λ p. nat_le p.0 p.1) (zip v cap)

-- some form of the item fits the type
abbrev pub item_fits : Item → BinType → Bool
item_fits x t = list_any (λ v. vector_fits v t.cap) x.forms

-- each item with a demand has a form that fits some type
abbrev pub HasPlaces : InstanceValue → Type 0
HasPlaces I = All (λ x. 0 < x.demand → list_any (item_fits x) I.types ≡ true) I.items

-- item i is the first with a demand of which no form fits any type
pub record IsFirstHomeless (I : InstanceValue) (i : ℕ) : Type 0 where
  pub item : IsAmong i (length I.items)
  pub demand : 0 < (item_at I i).demand
  pub place : list_any (item_fits (item_at I i)) I.types ≡ false
  pub first : (j : ℕ) → IsAmong j (i - 1) → 0 < (item_at I j).demand → list_any (item_fits (item_at I j)) I.types ≡ true

-- the costs of the types without limit that some form of the item fits
abbrev pub single_costs : InstanceValue → Item → List ℕ
single_costs I x = map (λ t. t.cost) (filter (λ t. is_none t.limit && item_fits x t) I.types)

-- each item with a demand fits some type without limit: the single cost exists
abbrev pub HasSingle : InstanceValue → Type 0
HasSingle I = All (λ x. 0 < x.demand → 0 < length (single_costs I x)) I.items

-- the single cost: that of one bin for each unit, each bin of the cheapest type without limit
abbrev pub single_of : InstanceValue → ℕ
single_of I = sum_by (λ x. x.demand * least_of (single_costs I x)) I.items

-- each bin holds one unit
abbrev pub HasOneUnitEach : Bins → Type 0
HasOneUnitEach P = All (λ b. sum_by (λ n. n.count) b.1 ≡ 1) P

-- no packing costs less than the material bound
abbrev pub MaterialIsFloor : Type 0
MaterialIsFloor = (I : InstanceValue) → IsFloor I (material_of I)

-- where some item with a demand fits nowhere, there is no packing
abbrev pub NoPlaceNoPacking : Type 0
NoPlaceNoPacking = (I : InstanceValue) → IsInstance I → (HasPlaces I → ⊥) → HasNoPacking I

-- where each item with a demand fits some type without limit, some packing costs exactly the single cost
abbrev pub SingleIsReached : Type 0
SingleIsReached = (I : InstanceValue) → IsInstance I → HasSingle I → (P : Bins) × IsPacking I P × (cost_of I P ≡ single_of I)

-- how much a bin of type t holds in dimension d
abbrev pub room_in : InstanceValue → ℕ → ℕ → ℕ
room_in I d t = slice_index (type_at I t).cap (d - 1)

-- in dimension d type t has room, and no type has more room for its cost
pub record IsBestType (I : InstanceValue) (d t : ℕ) : Type 0 where
  pub bin_type : IsAmong t (length I.types)
  pub room : 0 < room_in I d t
  pub best : (u : ℕ) → IsAmong u (length I.types) → room_in I d u * (type_at I t).cost ≤ room_in I d t * (type_at I u).cost

-- the floor in a dimension is the cost of what all units weigh there, in bins of a best type taken in parts
abbrev pub BestTypeGivesFloor : Type 0
BestTypeGivesFloor = (I : InstanceValue) (d t : ℕ) → IsBestType I d t → floor_in I d ≡ div_up (material_in I d * (type_at I t).cost) (room_in I d t)

-- d is the first dimension of greatest floor
pub record IsGreatestFloor (I : InstanceValue) (d : ℕ) : Type 0 where
  pub dim : IsAmong d I.dims
  pub greatest : floor_in I d ≡ material_of I
  pub first : (e : ℕ) → IsAmong e (d - 1) → floor_in I e < floor_in I d

-- in dimension d type t is the first best type
pub record IsFirstBestType (I : InstanceValue) (d t : ℕ) : Type 0 where
  pub best : IsBestType I d t
  pub first : (u : ℕ) → IsAmong u (t - 1) → IsBestType I d u → ⊥
