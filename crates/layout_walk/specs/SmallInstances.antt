-- Small instances, for the examples of both layouts.
use Rattle.std.specs.Prelude.{ℕ, List, [], ◌∷◌, None}
use Rattle.packing_laws.specs.declared.instances.ItemCap.{ItemCap}
use Rattle.packing_laws.specs.Instances.{InstanceValue}

-- in one dimension: bins of one type without limit, and one item of one form
abbrev pub one_item : (cap cost weight demand : ℕ) → List ItemCap → InstanceValue
one_item cap cost weight demand caps = record {
  dims = 1;
  types = record { cap = cap ∷ []; cost = cost; limit = None } ∷ [];
  items = record { demand = demand; forms = (weight ∷ []) ∷ [] } ∷ [];
  caps = caps;
}

-- the first item, of which a bin may hold so many units
abbrev pub capped : ℕ → List ItemCap
capped count = record { item = 1; count = count } ∷ []
