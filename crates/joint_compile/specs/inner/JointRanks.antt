-- Forms of items that fit some of the first types, while they are gathered.
use Rattle.std.specs.Prelude.{◌↔◌, ℕ, List, Contains, length}
use Rattle.packing_laws.specs.Instances.{InstanceValue, IsAmong}
use Rattle.arc_compile.specs.declared.ranks.Ranked.{Ranked}
use Rattle.arc_compile.specs.inner.Ranks.{IsRanked}

-- a form that fits one of the first types, of an item with a demand
abbrev pub IsRankedBelow : {N : ℕ} → InstanceValue → ℕ → Ranked N → Type 0
IsRankedBelow I types r = (t : ℕ) × IsAmong t types × IsRanked I t (length I.items) r

-- these are the forms that fit the first types
abbrev pub AreRankedBelow : {N : ℕ} → InstanceValue → ℕ → List (Ranked N) → Type 0
AreRankedBelow {N} I types ranked = (r : Ranked N) → Contains ranked r ↔ IsRankedBelow I types r
