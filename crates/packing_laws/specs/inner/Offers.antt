-- The dimension and the type from which the material bound comes, as far as they were looked for.
use Rattle.std.specs.Prelude.{◌≡◌, ℕ, ◌-◌, ◌*◌, ◌<◌, ◌≤◌, ◌⊎◌, Option, MatchOption, map}
use Rattle.packing_laws.specs.declared.sources.Offer.{Offer}
use Rattle.packing_laws.specs.Instances.{InstanceValue, IsAmong, type_at}
use Rattle.packing_laws.specs.Floors.{greatest_of, numbers_to, floor_in, room_in}

-- d is the first of the first n dimensions with this floor, which is above 0
pub record IsFirstOf (I : InstanceValue) (n greatest d : ℕ) : Type 0 where
  pub dim : IsAmong d n
  pub some : 0 < greatest
  pub floor : floor_in I d ≡ greatest
  pub first : (e : ℕ) → IsAmong e (d - 1) → floor_in I e < greatest

-- the greatest floor of the first n dimensions, and the first with it if it is above 0
pub record IsGreatestOf (I : InstanceValue) (n greatest : ℕ) (dim : Option ℕ) : Type 0 where
  pub is : greatest ≡ greatest_of (map (floor_in I) (numbers_to n))
  pub found : MatchOption dim (greatest ≡ 0) (IsFirstOf I n greatest)

-- what a type has in dimension d
pub record IsOfferOf (I : InstanceValue) (d : ℕ) (o : Offer) : Type 0 where
  pub room : o.room ≡ room_in I d o.bin_type
  pub cost : o.cost ≡ (type_at I o.bin_type).cost
  pub some : 0 < o.room

-- the first offer has more room for its cost
abbrev pub HasMore : Offer → Offer → Type 0
HasMore o p = p.room * o.cost < o.room * p.cost

-- the next offer where it has more room for its cost than the best so far, and else that
abbrev pub IsBetterOf : Option Offer → Offer → Offer → Type 0
IsBetterOf best next o = MatchOption best (o ≡ next) (λ b. (HasMore next b × (o ≡ next)) ⊎ ((next.room * b.cost ≤ b.room * next.cost) × (o ≡ b)))

-- the first of the first n types with the most room for its cost
pub record IsBestOf (I : InstanceValue) (d n : ℕ) (o : Offer) : Type 0 where
  pub offer : IsOfferOf I d o
  pub among : IsAmong o.bin_type n
  pub best : (u : ℕ) → IsAmong u n → room_in I d u * o.cost ≤ o.room * (type_at I u).cost
  pub first : (u : ℕ) → IsAmong u (o.bin_type - 1) → 0 < room_in I d u → room_in I d u * o.cost < o.room * (type_at I u).cost

-- the best offer of the first n types, or none has room
abbrev pub AreOffers : InstanceValue → ℕ → ℕ → Option Offer → Type 0
AreOffers I d n best = MatchOption best ((u : ℕ) → IsAmong u n → room_in I d u ≡ 0) (IsBestOf I d n)
