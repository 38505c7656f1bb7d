-- The generated instances: what a seed and a number of items give.
use Rattle.std.specs.Prelude.{ℕ, zero, suc, ◌+◌, ◌*◌, ◌^◌, ◌/◌, ◌%◌, [], ◌∷◌, map, None}
use Rattle.std.specs.List.{range_with_len}
use Rattle.packing_laws.specs.declared.instances.Item.{Item}
use Rattle.packing_laws.specs.Instances.{InstanceValue}

-- the state that follows a state of the generator
abbrev pub state_behind : ℕ → ℕ
state_behind x = (6364136223846793005 * x + 1442695040888963407) % 2 ^ 64

-- the k-th state from a seed, which is the state before the first
abbrev pub state_at : ℕ → ℕ → ℕ
state_at seed zero = seed
state_at seed (suc k) = state_behind (state_at seed k)

-- the number that a state draws
abbrev pub drawn : ℕ → ℕ
drawn x = x / 2 ^ 33

-- a weight from 500 to 5,000
abbrev pub weight_of : ℕ → ℕ
weight_of v = 500 + v % 4501

-- a demand from 1 to 40
abbrev pub demand_of : ℕ → ℕ
demand_of v = 1 + v / 4501 % 40

-- the item that a number gives, in its only form
abbrev pub item_of : ℕ → Item
item_of v = record { demand = demand_of v; forms = (weight_of v ∷ []) ∷ [] }

-- item i of a seed, by numbers from 1
abbrev pub generated_item : ℕ → ℕ → Item
generated_item seed i = item_of (drawn (state_at seed i))

-- the items from 1 to the size, in bins of 10,000 that cost 1 each, as many as are wanted
abbrev pub generated_value : ℕ → ℕ → InstanceValue
generated_value seed size = record {
  dims = 1;
  types = record { cap = 10000 ∷ []; cost = 1; limit = None } ∷ [];
  items = map (generated_item seed) (range_with_len 1 size);
  caps = [];
}
